-- In every world each processor's life is what its core's facts make up, and each of its outputs belongs to the stage
-- in which it comes.
use Rattle.std.proofs.Common.{◌≡◌, ℕ, Bool, true, false, ◌==◌, cond, List, [], ◌∷◌, ◌++◌, map, Option, Some, None, refl, ap, sym, ◌∙◌, subst, append-nil}
use Rattle.std.specs.Prelude.{filter_map}
use Rattle.std.specs.List.{cons_option}
use Rattle.std.proofs.lemmas.Bool.{cond_both, eqb-true, eqb-false, eq-eqb, ne_eqb}
use Rattle.std.proofs.lemmas.List.Elements.{filter_map-append}
use Rattle.ring_base.specs.Processors.{has}
use Rattle.ring_wire.specs.declared.frame.Frame.{Frame}
use Rattle.ring_core_spec.specs.declared.input.Input.{Input}
use Rattle.ring_core_spec.specs.declared.input.Input.TheVariants.{Frame as FrameInput, Timeout as TimeInput, Send as SendInput}
use Rattle.ring_core_spec.specs.declared.out.Out.{Out}
use Rattle.ring_core_spec.specs.State.{Core, halted, frame_at}
use Rattle.ring_core_spec.specs.Stepping.{ring_step}
use Rattle.ring_core_proof.specs.declared.event.RingEvent.{RingEvent}
use Rattle.ring_core_proof.specs.declared.event.RingEvent.TheVariants.{Send, Deliver, Timeout, Stop}
use Rattle.ring_core_proof.specs.Worlds.{Transmission, World, is_node, stepped_if, stopped_if, handed_if, handed, world_after_event, run, unformed}
use Rattle.ring_core_proof.specs.Lives.{life_opening, output_if_by, outs_of, life_of, has_ordered_outputs}
use Rattle.ring_core_proof.proofs.KeptByMoves.{kept_step, kept_stop}
use Rattle.ring_synchrony_proof.specs.LifeOfCore.{core_life}
use Rattle.ring_synchrony_proof.proofs.Ordered.{Ordered, ordering, opening_ordered}
use Rattle.ring_synchrony_proof.proofs.LifeAfterStep.{Tells, tells_then, step_tells}

-- The outputs of one processor are no other's

picked_own : {A : Type 0} → (i : ℕ) (outs : List (Out A)) → filter_map (output_if_by i) (map (λ (o : Out A). (i, o)) outs) ≡ outs
picked_own i [] = refl
picked_own {A} i (o ∷ outs) =
    ap (λ b. cons_option (cond b (Some o) None) (filter_map (output_if_by i) (map (λ (o : Out A). (i, o)) outs)))
    (eq-eqb i i refl) ∙ ap (λ (xs : List (Out A)). o ∷ xs) (picked_own i outs)

picked_other : {A : Type 0} → (i j : ℕ) → (i ≡ j → ⊥) → (outs : List (Out A)) → filter_map (output_if_by j) (map (λ (o : Out A). (i, o)) outs) ≡ []
picked_other i j n [] = refl
picked_other {A} i j n (o ∷ outs) =
    ap (λ b. cons_option (cond b (Some o) None) (filter_map (output_if_by j) (map (λ (o : Out A). (i, o)) outs))) (ne_eqb i j n) ∙ picked_other i j n outs

-- The invariant

pub record IsTold {A : Type 0} (i : ℕ) (c : Core A) (outs : List (Out A)) : Type 0 where
  pub ordered : Ordered c
  pub tells : Tells (life_opening i) outs (core_life c)

abbrev pub AllLivesTold : {A : Type 0} → World A → Type 0
AllLivesTold w = (i : ℕ) → IsTold i (w.cores i) (outs_of w i)

told_same : {A : Type 0} → (i : ℕ) (c : Core A) (outs more : List (Out A)) → more ≡ outs → IsTold i c outs → IsTold i c more
told_same {A} i c outs more e t = subst (λ (xs : List (Out A)). IsTold i c xs) (sym e) t

stepped_told : {A : Type 0} → (b : Bool) (w : World A) (i : ℕ) (input : Input A) → AllLivesTold w → AllLivesTold (stepped_if b w i input)
stepped_told false w i input h j = h j
stepped_told {A} true w i input h j =
    let s = ring_step (w.cores i) input in
    let new : List (ℕ × Out A) = map (λ (o : Out A). (i, o)) s.outs in
    let parts : filter_map (output_if_by j) (w.outs ++ new) ≡ outs_of w j ++ filter_map (output_if_by j) new = filter_map-append (output_if_by j) w.outs new in
    let there : List (Out A) = filter_map (output_if_by j) (w.outs ++ new) in
    cond_both (j == i) s.core (w.cores j) (λ (c : Core A). IsTold j c there)
    (λ e. (let same : i ≡ j = sym (eqb-true j i e) in subst (λ (j : ℕ). IsTold j s.core (filter_map (output_if_by j) (w.outs ++ new))) same own))
    (λ e. (let other : i ≡ j → ⊥ = λ k. eqb-false j i e (sym k) in
    told_same j (w.cores j) (outs_of w j) there (parts ∙ ap (λ (xs : List (Out A)). outs_of w j ++ xs)
    (picked_other i j other s.outs) ∙ append-nil (outs_of w j)) (h j)))
  where
    own : IsTold i (ring_step (w.cores i) input).core (filter_map (output_if_by i) (w.outs ++ map (λ (o : Out A). (i, o)) (ring_step (w.cores i) input).outs))
    own =
        let s = ring_step (w.cores i) input in
        let new : List (ℕ × Out A) = map (λ (o : Out A). (i, o)) s.outs in
        told_same i s.core (outs_of w i ++ s.outs) _ (filter_map-append (output_if_by i) w.outs new
        ∙ ap (λ (xs : List (Out A)). outs_of w i ++ xs) (picked_own i s.outs))
        (record {
          ordered = kept_step Ordered ordering (w.cores i) input (h i).ordered;
          tells = tells_then (life_opening i) (core_life (w.cores i)) (core_life s.core) (outs_of w i) s.outs (h i).tells (step_tells (w.cores i) input (h i).ordered);
        })

stopped_told : {A : Type 0} → (b : Bool) (w : World A) (i : ℕ) → AllLivesTold w → AllLivesTold (stopped_if b w i)
stopped_told false w i h j = h j
stopped_told {A} true w i h j =
    cond_both (j == i) (halted (w.cores i)) (w.cores j) (λ (c : Core A). IsTold j c (outs_of w j))
    (λ e. subst (λ (i : ℕ). IsTold j (halted (w.cores i)) (outs_of w j)) (eqb-true j i e)
    (record {
      ordered = kept_stop Ordered ordering (w.cores j) (h j).ordered;
      tells = record { after = ((h j).tells).after; belong = ((h j).tells).belong };
    }))
    (λ e. h j)

if_told : {A : Type 0} → (b : Bool) (w : World A) (i : ℕ) (frame : Frame A) → AllLivesTold w → AllLivesTold (handed_if b w i frame)
if_told false w i frame h = h
if_told true w i frame h = stepped_told (is_node w i) w i (FrameInput frame) h

handed_told : {A : Type 0} → (w : World A) (i : ℕ) (o : Option (Transmission A)) → AllLivesTold w → AllLivesTold (handed w i o)
handed_told w i None h = h
handed_told w i (Some f) h = if_told (has f.to i) w i f.frame h

pub event_told : {A : Type 0} → (w : World A) (e : RingEvent A) → AllLivesTold w → AllLivesTold (world_after_event w e)
event_told w (Send i payload) h = stepped_told (is_node w i) w i (SendInput payload) h
event_told w (Deliver i n) h = handed_told w i (frame_at w.frames n) h
event_told w (Timeout i kind) h = stepped_told (is_node w i) w i (TimeInput kind) h
event_told w (Stop i) h = stopped_told (is_node w i) w i h

run_told_lives : {A : Type 0} → (w : World A) (events : List (RingEvent A)) → AllLivesTold w → AllLivesTold (run w events)
run_told_lives w [] h = h
run_told_lives w (e ∷ events) h = run_told_lives (world_after_event w e) events (event_told w e h)

opening_told : {A : Type 0} → (n : ℕ) → AllLivesTold (unformed {A = A} n)
opening_told {A} n i = record { ordered = opening_ordered A n i; tells = record { after = refl; belong = refl } }

pub all_told : {A : Type 0} → (n : ℕ) (events : List (RingEvent A)) → AllLivesTold (run (unformed n) events)
all_told {A} n events = run_told_lives (unformed n) events (opening_told {A = A} n)

pub lives_are : {A : Type 0} → (n : ℕ) (events : List (RingEvent A)) (i : ℕ) → life_of (run (unformed n) events) i ≡ core_life ((run (unformed n) events).cores i)
lives_are n events i = ((all_told n events i).tells).after

pub all_well_told : {A : Type 0} → (n : ℕ) (events : List (RingEvent A)) (i : ℕ) → has_ordered_outputs (run (unformed n) events) i ≡ true
all_well_told n events i = ((all_told n events i).tells).belong
