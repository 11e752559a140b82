-- In every run a ring that is ready is installed, and a processor that holds a user message within the front has
-- installed the ring.

-- Such a message makes the ring ready, since each member's End comes before it.
use Rattle.std.proofs.Common.{◌≡◌, ℕ, ◌≤◌, ◌⊎◌, inl, inr, Bool, true, false, ◌||◌, ◌==◌, List, [], ◌∷◌, ◌++◌, Option}
use Rattle.std.proofs.Common.{Some, None, refl, ap, sym, ◌∙◌, subst, arith}
use Rattle.std.proofs.lemmas.Bool.{cond_both, and_from, or_right, eq-eqb, eqb-true}
use Rattle.ring_base.specs.Numbers.{numbers_from}
use Rattle.ring_base.specs.Processors.{elements, has}
use Rattle.ring_base.specs.declared.ring_id.RingId.{RingId}
use Rattle.ring_payload.specs.PayloadKinds.{is_user, is_end}
use Rattle.ring_wire.specs.declared.frame.Frame.{Frame}
use Rattle.ring_wire.specs.declared.message.Message.{Message}
use Rattle.ring_core_spec.specs.Windows.{found}
use Rattle.ring_core_spec.proofs.Windows.{front_is, holds-found}
use Rattle.ring_core_spec.specs.Commits.{Configuration}
use Rattle.ring_core_spec.specs.Recoveries.{in_front, ends, has_end_of, all_ended, is_covered, has_user, is_ready}
use Rattle.ring_core_spec.specs.State.{Core, opening, halted, frame_at}
use Rattle.ring_core_spec.specs.Stepping.{ring_step}
use Rattle.ring_core_spec.specs.Views.{front, mark}
use Rattle.ring_core_spec.specs.declared.input.Input.{Input}
use Rattle.ring_core_spec.specs.declared.input.Input.TheVariants.{Frame as FrameInput, Timeout as TimeInput, Send as SendInput}
use Rattle.ring_core_proof.specs.FactWords.{IsIn}
use Rattle.ring_core_proof.specs.Moves.{Move, core_after_move, sends_of, MayMove, IsReceivedFrame}
use Rattle.ring_core_proof.specs.Worlds.{World, Transmission, with_core, transmissions_from, is_node, stepped_if, stopped_if, handed_if, handed}
use Rattle.ring_core_proof.specs.Worlds.{world_after_event, run, unformed}
use Rattle.ring_core_proof.specs.declared.event.RingEvent.{RingEvent}
use Rattle.ring_core_proof.specs.declared.event.RingEvent.TheVariants.{Send, Deliver, Timeout, Stop}
use Rattle.ring_core_proof.proofs.Lifting.{IsKeptInWorlds, kept_run, node_low}
use Rattle.ring_core_proof.proofs.InLists.{in-each, in-filter, in-filter_map, in-numbers, any-in}
use Rattle.ring_chain_proof.specs.ChainWords.{IsRingOf}
use Rattle.ring_chain_proof.proofs.ChainInRuns.{held_somewhere}
use Rattle.ring_chain_proof.proofs.FactsGrow.{put-each}
use Rattle.ring_chain_proof.proofs.Rings.{one_members}
use Rattle.ring_chain_proof.proofs.OneText.{numbered_in}
use Rattle.ring_synchrony_proof.specs.Synchrony.{IsVirtuallySynchronous}
use Rattle.ring_synchrony_proof.proofs.Quantified.{all_decides}
use Rattle.ring_synchrony_proof.specs.Installed.{HoldersHaveInstalled}
use Rattle.ring_synchrony_proof.proofs.UserMessages.{found_as}
use Rattle.ring_synchrony_proof.proofs.WrappedIsHeld.{AllUnwrap, unwrap_moved, all_unwrap}
use Rattle.ring_synchrony_proof.proofs.AllOfSynchrony.{synchronous}
use Rattle.ring_synchrony_proof.specs.Ends.{IsSentBy, HoldsEndUpTo, IsBehindEnds, SendsBehindEnds}
use Rattle.ring_synchrony_proof.specs.InstallReadiness.{ReadyIsComplete, ReadyIsInstalled}
use Rattle.ring_synchrony_proof.proofs.Complete.{sent_by, one_message, some_ring, installed_ring, ready_complete}
use Rattle.ring_synchrony_proof.proofs.Order.{IsOrderly, moved_orderly, opening_orderly}
use Rattle.ring_synchrony_proof.proofs.InstallReadiness.{step_ready}

-- All cores, after each move

pub record AllOrderly {A : Type 0} (cores : ℕ → Core A) (frames : List (Transmission A)) : Type 0 where
  pub unwraps : AllUnwrap cores frames
  pub orderly : (q : ℕ) → IsOrderly (cores q)

orderly_moved : {A : Type 0} → (cores : ℕ → Core A) (frames : List (Transmission A)) (i : ℕ) (m : Move A) → 1 ≤ i → MayMove (IsReceivedFrame frames i) (cores i) m →
    AllOrderly cores frames →
    AllOrderly (with_core cores i (core_after_move (cores i) m)) (frames ++ transmissions_from i (sends_of (cores i) m))
orderly_moved {A} cores frames i m low may a =
    record {
      unwraps = unwrap_moved cores frames i m low may a.unwraps;
      orderly = put-each (λ q (x : Core A). IsOrderly x) cores i (core_after_move (cores i) m) (λ q n. a.orderly q)
          (moved_orderly (IsReceivedFrame frames i) (cores i) m may (a.orderly i));
    }

orderly_kept : {A : Type 0} → IsKeptInWorlds (AllOrderly {A = A})
orderly_kept = record { moves = orderly_moved }

opening_all : (A : Type 0) → (n : ℕ) → AllOrderly (opening {A = A} n) []
opening_all A n = record { unwraps = all_unwrap n []; orderly = opening_orderly A n }

complete_all : {A : Type 0} → (cores : ℕ → Core A) (frames : List (Transmission A)) → AllOrderly cores frames → (q : ℕ) → ReadyIsComplete (cores q)
complete_all cores frames a q s ready = ready_complete cores frames a.unwraps a.orderly q s ready

-- After an event each core is as it was, or took a step, or stopped

abbrev IsAfter : {A : Type 0} → World A → ℕ → Core A → Type 0
IsAfter {A} w q c = (c ≡ w.cores q) ⊎ (((input : Input A) × (1 ≤ q) × (c ≡ (ring_step (w.cores q) input).core)) ⊎ (c ≡ halted (w.cores q)))

after_stepped : {A : Type 0} → (b : Bool) (w : World A) (i : ℕ) (input : Input A) → (b ≡ true → 1 ≤ i) → (q : ℕ) →
    IsAfter w q ((stepped_if b w i input).cores q)
after_stepped false w i input low q = inl refl
after_stepped {A} true w i input low q =
    cond_both (q == i) (ring_step (w.cores i) input).core (w.cores q) (λ (c : Core A). IsAfter w q c)
    (λ e. (let same : q ≡ i = eqb-true q i e in
    inr (inl (input, subst (λ j. 1 ≤ j) (sym same) (low refl), ap (λ j. (ring_step (w.cores j) input).core) (sym same)))))
    (λ e. inl refl)

after_stopped : {A : Type 0} → (b : Bool) (w : World A) (i : ℕ) (q : ℕ) → IsAfter w q ((stopped_if b w i).cores q)
after_stopped false w i q = inl refl
after_stopped {A} true w i q =
    cond_both (q == i) (halted (w.cores i)) (w.cores q) (λ (c : Core A). IsAfter w q c)
    (λ e. (let same : q ≡ i = eqb-true q i e in inr (inr (ap (λ j. halted (w.cores j)) (sym same))))) (λ e. inl refl)

after_if : {A : Type 0} → (b : Bool) (w : World A) (i : ℕ) (frame : Frame A) (q : ℕ) → IsAfter w q ((handed_if b w i frame).cores q)
after_if false w i frame q = inl refl
after_if true w i frame q = after_stepped (is_node w i) w i (FrameInput frame) (node_low w i) q

after_handed : {A : Type 0} → (w : World A) (i : ℕ) (o : Option (Transmission A)) (q : ℕ) → IsAfter w q ((handed w i o).cores q)
after_handed w i None q = inl refl
after_handed w i (Some f) q = after_if (has f.to i) w i f.frame q

after_event : {A : Type 0} → (w : World A) (e : RingEvent A) (q : ℕ) → IsAfter w q ((world_after_event w e).cores q)
after_event w (Send i payload) q = after_stepped (is_node w i) w i (SendInput payload) (node_low w i) q
after_event w (Deliver i n) q = after_handed w i (frame_at w.frames n) q
after_event w (Timeout i kind) q = after_stepped (is_node w i) w i (TimeInput kind) (node_low w i) q
after_event w (Stop i) q = after_stopped (is_node w i) w i q

-- Events

event_ready : {A : Type 0} → (w : World A) (q : ℕ) (c : Core A) → AllOrderly w.cores w.frames → ReadyIsInstalled (w.cores q) → ReadyIsComplete c →
    IsAfter w q c → ReadyIsInstalled c
event_ready {A} w q c a ready whole (inl e) = subst (λ (c : Core A). ReadyIsInstalled c) (sym e) ready
event_ready {A} w q c a ready whole (inr (inl (input, low, e))) =
    let same : (w.cores q).me ≡ q = ((((((a.unwraps).rec).all).all).rings).me) q in
    subst (λ (c : Core A). ReadyIsInstalled c) (sym e)
    (step_ready (w.cores q) input (omega (arith, same, low))
    (((a.unwraps).rec).local q).rises ((a.orderly q).local) ready (subst (λ (c : Core A). ReadyIsComplete c) e whole))
event_ready {A} w q c a ready whole (inr (inr e)) = subst (λ (c : Core A). ReadyIsInstalled c) (sym e) (λ x i l t. ready x i l t)

run_ready : {A : Type 0} → (w : World A) (events : List (RingEvent A)) → AllOrderly w.cores w.frames → ((q : ℕ) → ReadyIsInstalled (w.cores q)) → (q : ℕ) →
    ReadyIsInstalled ((run w events).cores q)
run_ready w [] a ready q = ready q
run_ready w (e ∷ events) a ready q =
    let next : AllOrderly (world_after_event w e).cores (world_after_event w e).frames = kept_run AllOrderly orderly_kept w (e ∷ []) a in
    run_ready (world_after_event w e) events next
    (λ p. event_ready w p ((world_after_event w e).cores p) a (ready p) (complete_all (world_after_event w e).cores (world_after_event w e).frames next p) (after_event w e p)) q

opening_ready : (A : Type 0) → (n q : ℕ) → ReadyIsInstalled (opening {A = A} n q)
opening_ready A n q x i l t = i

pub all_ready : {A : Type 0} → (n : ℕ) (events : List (RingEvent A)) (q : ℕ) → ReadyIsInstalled ((run (unformed n) events).cores q)
all_ready {A} n events q = run_ready (unformed n) events (opening_all A n) (λ p. opening_ready A n p) q

pub all_orderly : {A : Type 0} → (n : ℕ) (events : List (RingEvent A)) → AllOrderly (run (unformed n) events).cores (run (unformed n) events).frames
all_orderly {A} n events = kept_run AllOrderly orderly_kept (unformed n) events (opening_all A n)

pub all_complete : {A : Type 0} → (n : ℕ) (events : List (RingEvent A)) (q : ℕ) → ReadyIsComplete ((run (unformed n) events).cores q)
all_complete n events q = complete_all (run (unformed n) events).cores (run (unformed n) events).frames (all_orderly n events) q

-- A processor that holds a user message

module _ {A : Type 0} (cores : ℕ → Core A) (frames : List (Transmission A)) (a : AllOrderly cores frames) (ready : (q : ℕ) → ReadyIsInstalled (cores q)) where
  -- a message that another processor holds, of a number within the front
  shared : (p q : ℕ) (x : Message A) → IsIn x (cores p).held → x.number ≤ front (cores q) x.ring →
      IsIn x (cores q).held × (found (cores q).held x.ring x.number ≡ Some x)
  shared p q x i l =
      let c = cores q in
      let low : 1 ≤ x.number = in-each (λ (x : Message A). 1 ≤ x.number) x (cores p).held (((a.orderly p).local).messages).numbered i in
      let z = holds-found c.held x.ring x.number ((front_is c.held x.ring).below x.number low l) in
      let f = found_as c.held x.ring x.number z.0 z.1 in
      let same : z.0 ≡ x = one_message cores frames a.unwraps a.orderly q p z.0 x f.there i f.ring_is f.number_is in
      (subst (λ (y : Message A). IsIn y c.held) same f.there, z.1 ∙ ap Some same)

  in_front_of : (p q : ℕ) (x : Message A) → IsIn x (cores p).held → x.number ≤ front (cores q) x.ring → IsIn x (in_front (cores q).held x.ring)
  in_front_of p q x i l =
      let low : 1 ≤ x.number = in-each (λ (x : Message A). 1 ≤ x.number) x (cores p).held (((a.orderly p).local).messages).numbered i in
      let top = front (cores q) x.ring in
      in-filter_map (found (cores q).held x.ring) x.number x (numbers_from 1 top) (in-numbers 1 top x.number low (omega (arith, l))) (shared p q x i l).1

  -- an End that another processor holds, of a number within the front
  one_end : (p q : ℕ) (r ring : RingId) (n j : ℕ) → r ≡ ring → n ≤ front (cores q) ring → HoldsEndUpTo (cores p) r j n →
      has_end_of (in_front (cores q).held ring) j ≡ true
  one_end p q r ring n j same l e =
      let xs = in_front (cores q).held ring in
      let here : (e.message).ring ≡ ring = e.ring_is ∙ same in
      let within = e.within in
      let up : (e.message).number ≤ front (cores q) ring = omega (arith, within, l) in
      let there : IsIn e.message (in_front (cores q).held (e.message).ring) =
      in_front_of p q e.message e.held (subst (λ (z : RingId). (e.message).number ≤ front (cores q) z) (sym here) up) in
      let mine : IsIn e.message xs = subst (λ (z : RingId). IsIn e.message (in_front (cores q).held z)) here there in
      any-in (λ (x : Message A). x.sender == j) e.message (ends xs) (in-filter (λ (x : Message A). is_end x.payload) e.message xs mine e.ended)
      (eq-eqb (e.message).sender j e.sender)

  -- every member's End comes before each user message that was sent
  user_behind : (m : ℕ) (x : Message A) → IsSentBy (cores m) x → is_user x.payload ≡ true → IsBehindEnds (cores m) x.ring x.number
  user_behind m x s u =
      let v = s.turn in
      let ring : x.ring ≡ v.received.ring = (numbered_in v.received.ring (cores m).me v.received.seq v.fresh x s.numbered_there).ring_is in
      let behind = in-each (SendsBehindEnds (cores m)) v (cores m).turns ((a.orderly m).order).users s.there x s.numbered_there u in
      subst (λ (r : RingId). IsBehindEnds (cores m) r x.number) (sym ring) behind

  -- a user message within the front makes the ring ready
  ready_for : (p q m : ℕ) (x : Message A) → IsIn x (cores p).held → is_user x.payload ≡ true → x.number ≤ front (cores q) x.ring →
      IsBehindEnds (cores m) x.ring x.number →
      (members : ℕ) → IsRingOf cores x.ring members → is_ready (cores q).held x.ring members (mark (cores q) x.ring) ≡ true
  ready_for p q m x i u l behind members here =
      let xs = in_front (cores q).held x.ring in
      let known : IsRingOf cores x.ring (behind.configuration).members =
      subst (λ r. IsRingOf cores r (behind.configuration).members) behind.ring_is
      (installed_ring cores frames a.unwraps a.orderly m behind.configuration behind.there) in
      let same : (behind.configuration).members ≡ members =
      one_members cores ((((a.unwraps).rec).all).all).rings x.ring (behind.configuration).members members known here in
      let ended : all_ended xs members ≡ true =
      (all_decides (has_end_of xs) (λ j. has_end_of xs j ≡ true) (λ j. (λ t. t, λ t. t)) (elements members)).1
      (λ j k. one_end m q x.ring x.ring x.number j refl l (behind.ends j (subst (λ n. IsIn j (elements n)) (sym same) k))) in
      let user : has_user xs ≡ true = any-in (λ (x : Message A). is_user x.payload) x xs (in_front_of p q x i l) u in
      and_from (all_ended xs members) (is_covered xs (mark (cores q) x.ring) || has_user xs) ended
      (or_right (is_covered xs (mark (cores q) x.ring)) (has_user xs) user)

  pub heard_installed : (p q : ℕ) (x : Message A) → IsIn x (cores p).held → is_user x.payload ≡ true → x.number ≤ front (cores q) x.ring →
      (at : Configuration) × IsIn at (cores q).installs × (at.ring ≡ x.ring)
  heard_installed p q x i u l =
      let among = in-each _ x (cores q).held ((((a.orderly q).local).facts).held) (shared p q x i l).0 in
      let here : IsRingOf cores x.ring among.0 = ((((((a.unwraps).rec).all).all).rings).shared) q x.ring among.0 among.1 in
      let behind = user_behind x.sender x (sent_by cores frames a.unwraps a.orderly p x i) u in
      let now = ready_for p q x.sender x i u l behind among.0 here in (
        record { ring = x.ring; members = among.0 },
        ready q (record { ring = x.ring; members = among.0 }) among.1 (some_ring cores frames a.unwraps a.orderly p x i) now,
        refl,
      )

pub all_heard : {A : Type 0} → (n : ℕ) (events : List (RingEvent A)) → HoldersHaveInstalled (run (unformed n) events)
all_heard {A} n events q ring x i user l =
    let w : World A = run (unformed n) events in
    let h = held_somewhere w.cores ring (numbers_from 1 w.total) x i in
    let here : x.ring ≡ ring = h.2 in
    let r =
    heard_installed w.cores w.frames (all_orderly n events) (all_ready n events) h.0 q x h.1 user
    (subst (λ (z : RingId). x.number ≤ front (w.cores q) z) (sym here) l) in
    (r.0, r.1, r.2 ∙ here)

pub all_synchronous : {A : Type 0} → (n : ℕ) (events : List (RingEvent A)) → IsVirtuallySynchronous (run (unformed n) events)
all_synchronous n events = synchronous n events (all_heard n events)
