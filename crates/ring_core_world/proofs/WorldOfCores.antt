-- The code's fields stay those of the world: after a step, after a stop, and where nothing changes.
use Rattle.std.proofs.Common.{◌≡◌, ℕ, suc, ◌-◌, ◌<◌, ◌≤◌, Bool, true, false, ◌==◌, if◌then◌else◌, List, [], ◌∷◌, ◌++◌, map, length}
use Rattle.std.proofs.Common.{Option, Some, None, slice_get, get_or, refl, ap, ◌∙◌, sym, subst, arith, inl, inr, append_assoc, length-set}
use Rattle.std.specs.Prelude.{filter_map, slice_set, Result, Ok, Err, Vec, OnOk, OnErr, IfOk, IfErr}
use Rattle.ring_base.specs.declared.fault.Fault.{Fault}
use Rattle.ring_base.specs.declared.fault.Fault.TheVariants.{Memory, Stopped as StoppedFault}
use Rattle.ring_base.proofs.Faults.{was_stopped}
use Rattle.std.proofs.lemmas.Bool.{cond-true, cond-false, le-leb, eqb-true, eqb-false, cases_Bool}
use Rattle.std.proofs.lemmas.Bool.Decides.{nat_tests}
use Rattle.std.proofs.lemmas.List.Elements.{filter_map-append}
use Rattle.std.proofs.lemmas.Option.{get_or_from_slice_get}
use Rattle.ring_base.specs.Processors.{has}
use Rattle.ring_base.proofs.ListPlaces.{get-set, get-set_other}
use Rattle.ring_wire.specs.Frames.{FrameFits}
use Rattle.ring_wire.specs.declared.frame.Frame.{Frame}
use Rattle.ring_core_spec.specs.declared.input.Input.{Input}
use Rattle.ring_core_spec.specs.declared.input.Input.TheVariants.{Frame as FrameInput, Timeout as TimeInput, Send as SendInput}
use Rattle.ring_core_spec.specs.declared.out.Out.{Out}
use Rattle.ring_core_spec.specs.State.{Core, OutgoingFrame, Transmission, halted, is_stopped, frame_at, frame_for}
use Rattle.ring_core_spec.specs.Stepping.{ring_step}
use Rattle.ring_core_proof.specs.declared.event.RingEvent.{RingEvent}
use Rattle.ring_core_proof.specs.Worlds.{World, world_after_event, unformed, ring_formed, with_core, transmission_by, after_step, is_node, stepped_if}
use Rattle.ring_core_proof.specs.Worlds.{stepped}
use Rattle.ring_core_proof.specs.Worlds.{stopped_if, handed_if, handed}
use Rattle.ring_core_proof.specs.Limits.{InputFits, WorldFits}
use Rattle.ring_core_proof.proofs.Lifting.{cores-append}
use Rattle.ring_core_proof.proofs.RunLimits.{stepped_fits, stopped_fits}
use Rattle.ring_core_spec.proofs.Carrying.{at_fits, one_fits}
use Rattle.ring_srp.specs.Inputs.{InputFits as CoreInputFits}
use Rattle.ring_core_world.specs.Running.{WorldRun, ran_from, world_of, more, opening_frames, transmission_of, frames_of, places_from, step_outputs, IsWorld}
use Rattle.ring_srp.proofs.StoppedCore.{stopped_step, stopped_halts}
use Rattle.ring_core_world.proofs.FramePlaces.{frames_by}

-- an event that keeps the limits gives an input that does
pub input_fits : {A : Type 0} (input : Input A) → InputFits input → CoreInputFits input
input_fits (FrameInput frame) f = f
input_fits (TimeInput kind) f = tt
input_fits (SendInput payload) f = tt

-- Nodes

pub node_is : {A : Type 0} (w : World A) (i : ℕ) → 1 ≤ i → i ≤ w.total → is_node w i ≡ true
node_is w i low high = rw (le-leb 1 i low, le-leb i w.total high) refl

pub node_is_not : {A : Type 0} (w : World A) (i : ℕ) → 1 ≤ i → w.total ≤ i - 1 → is_node w i ≡ false
node_is_not w i low far = grind (arith, nat_tests, low, far)

-- The core of processor i is at index i - 1

module _ {A : Type 0} (w : World A) (cores : List (Core A)) (many : length cores ≡ w.total)
    (are : (j : ℕ) → j < w.total → slice_get cores j ≡ Some (w.cores (suc j))) where
  pub core_at : (i : ℕ) (d : Core A) → 1 ≤ i → i - 1 < length cores → get_or cores (i - 1) d ≡ w.cores i
  core_at i d low l =
      let e : suc (i - 1) ≡ i = omega (arith, low) in
      get_or_from_slice_get cores (i - 1) (w.cores (suc (i - 1))) d (are (i - 1) (omega (arith, l, many))) ∙ ap w.cores e

  cores_put : (i : ℕ) (c : Core A) → 1 ≤ i → i - 1 < length cores → (j : ℕ) → j < w.total →
      slice_get (slice_set cores (i - 1) c) j ≡ Some (with_core w.cores i c (suc j))
  cores_put i c low l j h =
      elim (cases_Bool (suc j == i)) [
        | inl t ↦
            let e = eqb-true (suc j) i t in
            let p : i - 1 ≡ j = omega (arith, e) in
            ap (slice_get (slice_set cores (i - 1) c)) (sym p) ∙ get-set cores (i - 1) c l ∙ ap Some (sym (cond-true (suc j == i) c (w.cores (suc j)) t))
        | inr f ↦
            let e = eqb-false (suc j) i f in
            get-set_other cores (i - 1) j c (λ q. e (omega (arith, q, low))) ∙ are j h
            ∙ ap Some (sym (cond-false (suc j == i) c (w.cores (suc j)) f))
      ]

-- Changes of a world

module _ {A : Type 0} (w : World A) (cores : List (Core A)) (first : Option (OutgoingFrame A)) (outs : List (ℕ × Out A)) (places : List ℕ)
    (h : IsWorld w cores first outs places) where
  after_is : (i : ℕ) (input : Input A) (cores' : List (Core A)) (outs' : List (ℕ × Out A)) (places' : List ℕ) → 1 ≤ i → i - 1 < length cores → InputFits input →
      cores' ≡ slice_set cores (i - 1) (ring_step (w.cores i) input).core → outs' ≡ outs ++ map (λ o. (i, o)) (ring_step (w.cores i) input).outs →
      places' ≡ places_from 0 outs' → IsWorld (after_step w i (ring_step (w.cores i) input)) cores' first outs' places'
  after_is i input cores' outs' places' low l fits c o p =
      let s = ring_step (w.cores i) input in
      let node = node_is w i low (let m = h.many in omega (arith, m, l)) in
      record {
        cores_are = λ j far. ap (λ xs. slice_get xs j) c ∙ cores_put w cores h.many h.cores_are i s.core low l j far;
        many = ap length c ∙ length-set cores (i - 1) s.core ∙ h.many;
        outs_are = ap (λ xs. xs ++ map (λ o. (i, o)) s.outs) h.outs_are ∙ sym o;
        frames_are =
            ap (λ fs. fs ++ filter_map (transmission_by i) s.outs) h.frames_are
            ∙ append_assoc (opening_frames first) (frames_of outs) (filter_map (transmission_by i) s.outs)
            ∙ ap (λ fs. opening_frames first ++ fs)
            (ap (λ fs. frames_of outs ++ fs) (sym (frames_by i s.outs)) ∙ sym (filter_map-append transmission_of outs (map (λ o. (i, o)) s.outs))
            ∙ ap frames_of (sym o));
        places_are = p;
        fits = stepped_fits w h.fits true i input (λ e. node) fits;
      }

  -- one processor took a step
  pub steps : (i : ℕ) (input : Input A) (cores' : List (Core A)) (outs' : List (ℕ × Out A)) (places' : List ℕ) → 1 ≤ i → i - 1 < length cores →
      InputFits input →
      cores' ≡ slice_set cores (i - 1) (ring_step (w.cores i) input).core → outs' ≡ outs ++ map (λ o. (i, o)) (ring_step (w.cores i) input).outs →
      places' ≡ places_from 0 outs' → IsWorld (stepped w i input) cores' first outs' places'
  steps i input cores' outs' places' low l fits c o p =
      let node = node_is w i low (let m = h.many in omega (arith, m, l)) in
      subst (λ b. IsWorld (stepped_if b w i input) cores' first outs' places') (sym node) (after_is i input cores' outs' places' low l fits c o p)

  -- one processor stopped
  halted_is : (i : ℕ) (cores' : List (Core A)) → 1 ≤ i → i - 1 < length cores → cores' ≡ slice_set cores (i - 1) (halted (w.cores i)) →
      IsWorld (stopped_if true w i) cores' first outs places
  halted_is i cores' low l c =
      let node = node_is w i low (let m = h.many in omega (arith, m, l)) in
      record {
        cores_are = λ j far. ap (λ xs. slice_get xs j) c ∙ cores_put w cores h.many h.cores_are i (halted (w.cores i)) low l j far;
        many = ap length c ∙ length-set cores (i - 1) (halted (w.cores i)) ∙ h.many;
        outs_are = h.outs_are;
        frames_are = h.frames_are;
        places_are = h.places_are;
        fits = stopped_fits w h.fits true i (λ e. node);
      }

  pub stops : (i : ℕ) (cores' : List (Core A)) → 1 ≤ i → i - 1 < length cores → cores' ≡ slice_set cores (i - 1) (halted (w.cores i)) →
      IsWorld (stopped_if (is_node w i) w i) cores' first outs places
  stops i cores' low l c =
      let node = node_is w i low (let m = h.many in omega (arith, m, l)) in
      subst (λ b. IsWorld (stopped_if b w i) cores' first outs places) (sym node) (halted_is i cores' low l c)

-- an unknown processor changes nothing
pub stepped_not : {A : Type 0} (w : World A) (i : ℕ) (input : Input A) → 1 ≤ i → w.total ≤ i - 1 → stepped w i input ≡ w
stepped_not w i input low far = ap (λ b. stepped_if b w i input) (node_is_not w i low far)

pub stopped_not : {A : Type 0} (w : World A) (i : ℕ) → 1 ≤ i → w.total ≤ i - 1 → stopped_if (is_node w i) w i ≡ w
stopped_not w i low far = ap (λ b. stopped_if b w i) (node_is_not w i low far)

-- Frames

-- the delivered frame is the one that was sent to the processor, if any
abbrev pub hands : {A : Type 0} → World A → ℕ → Option (Frame A) → World A
hands w i None = w
hands w i (Some frame) = stepped w i (FrameInput frame)

hands_if : {A : Type 0} (b : Bool) (w : World A) (i : ℕ) (frame : Frame A) → handed_if b w i frame ≡ hands w i (if b then Some frame else None)
hands_if true w i frame = refl
hands_if false w i frame = refl

pub handed_is : {A : Type 0} (w : World A) (i : ℕ) (o : Option (Transmission A)) → handed w i o ≡ hands w i (frame_for i o)
handed_is w i None = refl
handed_is w i (Some f) = hands_if (has f.to i) w i f.frame

-- Runs

ran_more : {A : Type 0} (formed : Bool) (count : ℕ) (events : List (RingEvent A)) (e : RingEvent A) →
    ran_from formed count (events ++ e ∷ []) ≡ world_after_event (ran_from formed count events) e
ran_more false count events e = cores-append (unformed count) events (e ∷ [])
ran_more true count events e = cores-append (ring_formed count) events (e ∷ [])

-- the world after one more event
pub world_more : {A : Type 0} (r : WorldRun A) (e : RingEvent A) → world_of (more r e) ≡ world_after_event (world_of r) e
world_more r e = ran_more r.formed r.count r.events e

-- the code's fields are those of the world after one more event
pub tells : {A : Type 0} (r s : WorldRun A) (e : RingEvent A) (w : World A) (cores : List (Core A)) (first : Option (OutgoingFrame A)) (outs : List (ℕ × Out A))
    (places : List ℕ) →
    s ≡ more r e → world_after_event (world_of r) e ≡ w → IsWorld w cores first outs places → IsWorld (world_of s) cores first outs places
tells r s e w cores first outs places a b h = subst (λ v. IsWorld v cores first outs places) (sym (ap world_of a ∙ world_more r e ∙ b)) h

-- Frames keep the limits

pub frame_fits : {A : Type 0} (w : World A) (i k : ℕ) (frame : Frame A) → WorldFits w → frame_for i (frame_at w.frames k) ≡ Some frame → FrameFits frame
frame_fits w i k frame h e = one_fits (frame_at w.frames k) i frame (λ f. at_fits w.frames k f h.frames) e

-- The result of a core's step, also where it has stopped

-- the core after a step, and its outputs, are those of the definition
pub record IsStepped {A : Type 0} (old now : Core A) (input : Input A) (outs : List (Out A)) : Type 0 where
  pub core : now ≡ (ring_step old input).core
  pub given : outs ≡ (ring_step old input).outs

pub stepped_by : {A : Type 0} (old core : Core A) (input : Input A) (stepped : Result (Vec (Out A) A) Fault)
    → IfOk stepped (λ outs. outs.items ≡ (ring_step old input).outs) → OnOk stepped (core ≡ (ring_step old input).core)
    → OnErr stepped (core ≡ halted old) → IfErr stepped (λ fault. fault ≡ (if is_stopped old.state then StoppedFault else Memory))
    → IfErr stepped (λ fault. fault ≡ StoppedFault) → IsStepped old core input (step_outputs stepped)
stepped_by old core input (Ok outs) gives ok err why stopped = record { core = ok; given = gives }
stepped_by old core input (Err fault) gives ok err why stopped =
    let t = was_stopped (is_stopped old.state) fault why stopped in
    let nothing = stopped_step old input t in
    record { core = err ∙ stopped_halts old t ∙ sym nothing.core; given = sym nothing.outs }

-- The code's operations

module _ {A : Type 0} (r s : WorldRun A) (e : RingEvent A) (cores : List (Core A)) (first : Option (OutgoingFrame A)) (outs : List (ℕ × Out A)) (places : List ℕ)
    (h : IsWorld (world_of r) cores first outs places) (one : s ≡ more r e) (i m : ℕ) (same : m ≡ i) (low : 1 ≤ i) (l : i - 1 < length cores)
    (old : Core A) (here : old ≡ get_or cores (m - 1) old) where
  old_is : old ≡ (world_of r).cores i
  old_is = here ∙ ap (λ k. get_or cores (k - 1) old) same ∙ core_at (world_of r) cores h.many h.cores_are i old low l

  -- a core takes a step
  pub stepped_tells : (input : Input A) (core : Core A) (given : List (Out A)) (outs' : List (ℕ × Out A)) (places' : List ℕ) →
      world_after_event (world_of r) e ≡ stepped (world_of r) i input → InputFits input → core ≡ (ring_step old input).core → given ≡ (ring_step old input).outs →
      outs' ≡ outs ++ map (λ o. (i, o)) given → places' ≡ places_from 0 outs' → IsWorld (world_of s) (slice_set cores (m - 1) core) first outs' places'
  stepped_tells input core given outs' places' w fits c g o p =
      let set = ap (λ k. slice_set cores (k - 1) core) same ∙ ap (slice_set cores (i - 1)) (c ∙ ap (λ (d : Core A). (ring_step d input).core) old_is) in
      let gave = o ∙ ap (λ xs. outs ++ map (λ o. (i, o)) xs) (g ∙ ap (λ (d : Core A). (ring_step d input).outs) old_is) in
      tells r s e (stepped (world_of r) i input) (slice_set cores (m - 1) core) first outs' places' one w
      (steps (world_of r) cores first outs places h i input (slice_set cores (m - 1) core) outs' places' low l fits set gave p)

  -- a core stops
  pub halted_tells : (core : Core A) → world_after_event (world_of r) e ≡ stopped_if (is_node (world_of r) i) (world_of r) i → core ≡ halted old →
      IsWorld (world_of s) (slice_set cores (m - 1) core) first outs places
  halted_tells core w c =
      let set = ap (λ k. slice_set cores (k - 1) core) same ∙ ap (slice_set cores (i - 1)) (c ∙ ap halted old_is) in
      tells r s e (stopped_if (is_node (world_of r) i) (world_of r) i) (slice_set cores (m - 1) core) first outs places one w
      (stops (world_of r) cores first outs places h i (slice_set cores (m - 1) core) low l set)
