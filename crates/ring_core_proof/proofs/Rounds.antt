-- The member at its position takes a commit token, in the second round with a report that it would write again. And
-- the ring numbers of each core rise.
use Rattle.std.proofs.Common.{◌≡◌, ℕ, ◌<◌, Bool, true, false, not, ◌&&◌, ◌||◌, ◌==◌, List, [], ◌∷◌, Option, Some, None, refl, ◌∙◌, subst, arith, inl, inr}
use Rattle.std.specs.Prelude.{◌*◌, nat_le, nat_lt, slice_get}
use Rattle.std.specs.List.{list_all}
use Rattle.std.proofs.lemmas.Bool.{cases_Bool, and_from, and_parts, eqb-true, leb-true, ltb-true, lt-ltb, eq-eqb, true≢false, cond-true, cond-false}
use Rattle.std.proofs.lemmas.List.Folds.{list_all-append}
use Rattle.ring_base.specs.Numbers.{numbers_from}
use Rattle.ring_base.specs.Processors.{has, size}
use Rattle.ring_wire.specs.declared.commit.CommitToken.{CommitToken}
use Rattle.ring_wire.specs.declared.frame.Frame.{Frame}
use Rattle.ring_wire.specs.declared.frame.Frame.TheVariants.{Message as MessageFrame, Token as TokenFrame, Join as JoinFrame, Commit as CommitFrame}
use Rattle.ring_core_spec.specs.Tokens.{first_token}
use Rattle.ring_core_spec.specs.Joins.{candidates}
use Rattle.ring_core_spec.specs.Commits.{is_sound, Configuration, position_of_hop, receiver, is_of, is_own, is_at}
use Rattle.ring_core_spec.specs.declared.input.Input.TheVariants.{Frame as FrameInput}
use Rattle.ring_base.specs.declared.state.State.{State}
use Rattle.ring_base.specs.declared.state.State.TheVariants.{Gather, Commit, Recovery, Operational, Stopped}
use Rattle.ring_core_spec.specs.State.{Core, floor, opening_ring, frame_at}
use Rattle.ring_core_spec.specs.Naming.{is_named}
use Rattle.ring_core_spec.specs.Views.{own_entry}
use Rattle.ring_core_spec.specs.Visiting.{accepts}
use Rattle.ring_core_spec.specs.CommitSteps.{takes_first_round, takes_second_round, takes_start}
use Rattle.ring_core_spec.specs.Deciding.{Transition, Ignore, decide, decide_round, decide_commit, decide_if_named}
use Rattle.ring_core_proof.specs.declared.event.RingEvent.{RingEvent}
use Rattle.ring_core_proof.specs.declared.event.RingEvent.TheVariants.{Send, Deliver, Timeout, Stop}
use Rattle.ring_core_proof.specs.Worlds.{Transmission, World, is_node, world_after_event, run, unformed}
use Rattle.ring_core_proof.specs.LawConditions.{IsFalling}
use Rattle.ring_core_proof.specs.CommitRounds.{all_pairs, is_above, has_rising_rings, Taking, is_ignored, taken_unless}
use Rattle.ring_core_proof.specs.CommitRounds.{taken_at, taken_if, taken_of, taken_in, takings, is_second, still_reports}
use Rattle.ring_core_proof.specs.CommitRounds.{is_taken}
use Rattle.ring_core_proof.proofs.Guards.{one_position}
use Rattle.ring_core_proof.proofs.Rises.{Rising, rising, alone_rises, falls_of}
use Rattle.ring_core_proof.proofs.KeptByMoves.{Everywhere, everywhere}

-- The second round

-- the report in the token is what the core would write now
abbrev Stands : {A : Type 0} → Core A → CommitToken → Type 0
Stands c k = is_own (own_entry c) (slice_get k.entries (position_of_hop k)) ≡ true

in_first : {A : Type 0} → (c : Core A) (k : CommitToken) → takes_first_round c k ≡ true → is_second k ≡ true → ⊥
in_first c k p s =
    let a : nat_lt k.hop (size k.members) ≡ true = (and_parts _ (k.members == candidates c.gathering) (and_parts _ (nat_lt (floor c) k.ring.seq) p).0).0 in
    let b : nat_le (size k.members) k.hop ≡ true = (and_parts _ (nat_lt k.hop (2 * size k.members)) s).0 in
    omega (arith, ltb-true _ _ a, leb-true _ _ b)

in_start : {A : Type 0} → (c : Core A) (k : CommitToken) → takes_start c k ≡ true → is_second k ≡ true → ⊥
in_start c k p s =
    let a : (k.hop == 2 * size k.members) ≡ true = (and_parts _ (is_of c.running k) (and_parts _ (accepts c (first_token k.ring)) p).0).0 in
    let b : nat_lt k.hop (2 * size k.members) ≡ true = (and_parts _ (nat_lt k.hop (2 * size k.members)) s).1 in
    omega (arith, eqb-true _ _ a, ltb-true _ _ b)

in_second : {A : Type 0} → (c : Core A) (k : CommitToken) → takes_second_round c k ≡ true → Stands c k
in_second c k p = (and_parts _ (is_own (own_entry c) (slice_get k.entries (position_of_hop k))) (and_parts _ (is_sound (own_entry c).old k.entries) p).0).1

-- a round that isn't ignored, at a hop of the second round
in_round : {A : Type 0} → (s : State) (c : Core A) (k : CommitToken) → (decide_round s c k ≡ Ignore → ⊥) → is_second k ≡ true → Stands c k
in_round Gather c k h s =
    elim (cases_Bool (takes_first_round c k)) [
      | inl p ↦ absurd (in_first c k p s)
      | inr e ↦ absurd (h (cond-false (takes_first_round c k) _ Ignore e))
    ]
in_round Commit c k h s =
    elim (cases_Bool (takes_second_round c k)) [
      | inl p ↦ in_second c k p
      | inr e ↦ absurd (h (cond-false (takes_second_round c k) _ Ignore e))
    ]
in_round Recovery c k h s =
    elim (cases_Bool (takes_start c k)) [
      | inl p ↦ absurd (in_start c k p s)
      | inr e ↦ absurd (h (cond-false (takes_start c k) _ Ignore e))
    ]
in_round Operational c k h s = absurd (h refl)
in_round Stopped c k h s = absurd (h refl)

in_commit : {A : Type 0} → (c : Core A) (k : CommitToken) → (decide_commit c k ≡ Ignore → ⊥) → is_second k ≡ true → Stands c k
in_commit c k h s =
    elim (cases_Bool (is_at c.me k)) [
      | inl e ↦ in_round c.state c k (λ q. h (cond-true (is_at c.me k) _ Ignore e ∙ q)) s
      | inr e ↦ absurd (h (cond-false (is_at c.me k) _ Ignore e))
    ]

in_named : {A : Type 0} → (b : Bool) (c : Core A) (k : CommitToken) → (decide_if_named b c (CommitFrame k) ≡ Ignore → ⊥) → is_second k ≡ true → Stands c k
in_named false c k h s = absurd (h refl)
in_named true c k h s = in_commit c k h s

-- Takings

pub not_ignored : {A : Type 0} → (a : Transition A) → is_ignored a ≡ false → a ≡ Ignore → ⊥
not_ignored {A} a h e = true≢false (subst (λ (x : Transition A). is_ignored x ≡ false) e h)

if_then : (a b : Bool) → (a ≡ true → b ≡ true) → (not a || b) ≡ true
if_then true b f = f refl
if_then false b f = refl

abbrev taking_of : {A : Type 0} → Core A → CommitToken → Taking
taking_of c k = record { who = c.me; commit = k; report = own_entry c }

is_taken_by : {A : Type 0} → (c : Core A) (k : CommitToken) → (decide c (FrameInput (CommitFrame k)) ≡ Ignore → ⊥) → is_taken (taking_of c k) ≡ true
is_taken_by {A} c k h =
    and_from (receiver k == c.me) (not (is_second k) || still_reports (taking_of c k)) (eq-eqb (receiver k) c.me (one_position c k h))
    (if_then (is_second k) (still_reports (taking_of c k)) (in_named (is_named {A = A} c.total (CommitFrame k)) c k h))

taken_unless-all : {A : Type 0} → (b : Bool) (c : Core A) (k : CommitToken)
    → (b ≡ false → is_taken (taking_of c k) ≡ true) → list_all is_taken (taken_unless b c k) ≡ true
taken_unless-all true c k h = refl
taken_unless-all false c k h = and_from (is_taken (taking_of c k)) true (h refl) refl

taken_at-all : {A : Type 0} → (c : Core A) (frame : Frame A) → list_all is_taken (taken_at c frame) ≡ true
taken_at-all c (CommitFrame k) =
    let a = decide c (FrameInput (CommitFrame k)) in
    taken_unless-all (is_ignored a) c k (λ e. is_taken_by c k (not_ignored a e))
taken_at-all c (MessageFrame x) = refl
taken_at-all c (TokenFrame t) = refl
taken_at-all c (JoinFrame j) = refl

taken_if-all : {A : Type 0} → (b : Bool) (c : Core A) (frame : Frame A) → list_all is_taken (taken_if b c frame) ≡ true
taken_if-all false c frame = refl
taken_if-all true c frame = taken_at-all c frame

taken_of-all : {A : Type 0} → (w : World A) (i : ℕ) (f : Option (Transmission A)) → list_all is_taken (taken_of w i f) ≡ true
taken_of-all w i None = refl
taken_of-all w i (Some f) = taken_if-all (has f.to i && is_node w i) (w.cores i) f.frame

taken_in-all : {A : Type 0} → (w : World A) (e : RingEvent A) → list_all is_taken (taken_in w e) ≡ true
taken_in-all w (Deliver i k) = taken_of-all w i (frame_at w.frames k)
taken_in-all w (Send i payload) = refl
taken_in-all w (Timeout i kind) = refl
taken_in-all w (Stop i) = refl

pub all_taken : {A : Type 0} → (w : World A) (events : List (RingEvent A)) → list_all is_taken (takings w events) ≡ true
all_taken w [] = refl
all_taken w (e ∷ events) =
    let xs = taken_in w e in
    let ys = takings (world_after_event w e) events in
    list_all-append is_taken xs ys ∙ and_from (list_all is_taken xs) (list_all is_taken ys) (taken_in-all w e) (all_taken (world_after_event w e) events)

-- Rings

-- a ring above the first of rings whose numbers fall is above each of them
above_all : (x y : Configuration) (rest : List Configuration) → y.ring.seq < x.ring.seq → IsFalling (y ∷ rest) → list_all (is_above x) (y ∷ rest) ≡ true
above_all x y [] h f = and_from (is_above x y) true (lt-ltb y.ring.seq x.ring.seq h) refl
above_all x y (z ∷ rest) h f =
    let below : z.ring.seq < x.ring.seq = omega (arith, h, f.0) in
    and_from (is_above x y) (list_all (is_above x) (z ∷ rest)) (lt-ltb y.ring.seq x.ring.seq h) (above_all x z rest below f.1)

pub pairs_fall : (rings : List Configuration) → IsFalling rings → all_pairs is_above rings ≡ true
pairs_fall [] f = refl
pairs_fall (x ∷ []) f = refl
pairs_fall (x ∷ y ∷ rest) f = and_from (list_all (is_above x) (y ∷ rest)) (all_pairs is_above (y ∷ rest))
    (above_all x y rest f.0 f.1) (pairs_fall (y ∷ rest) f.1)

all_numbers : (test : ℕ → Bool) → ((i : ℕ) → test i ≡ true) → (numbers : List ℕ) → list_all test numbers ≡ true
all_numbers test h [] = refl
all_numbers test h (i ∷ numbers) = and_from (test i) (list_all test numbers) (h i) (all_numbers test h numbers)

pub rises_everywhere : {A : Type 0} → (n : ℕ) (events : List (RingEvent A)) → Everywhere Rising (run (unformed n) events)
rises_everywhere n events = everywhere Rising rising (unformed n) events (λ i. alone_rises (opening_ring i))

pub all_rise : {A : Type 0} → (n : ℕ) (events : List (RingEvent A))
    → list_all (λ i. has_rising_rings ((run (unformed n) events).cores i)) (numbers_from 1 n) ≡ true
all_rise n events =
    let core : ℕ → Core _ = λ i. (run (unformed n) events).cores i in
    all_numbers (λ i. has_rising_rings (core i)) (λ i. pairs_fall (core i).rings (falls_of (core i) (rises_everywhere n events i))) (numbers_from 1 n)
