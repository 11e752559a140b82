-- Facts of one ring and facts of others: what is held, visited or raised in another ring changes no front and no mark
-- of this one.
use Rattle.std.proofs.Common.{◌≡◌, ℕ, suc, ◌&&◌, ◌||◌, ◌==◌, List, [], ◌∷◌, ◌++◌, refl, ap, sym, ◌∙◌}
use Rattle.std.specs.Prelude.{max, map, filter}
use Rattle.std.specs.List.{AllByRecursion as Each}
use Rattle.std.proofs.lemmas.Bool.{cond_both, cond-false, and_parts}
use Rattle.ring_base.specs.Numbers.{greatest}
use Rattle.ring_base.specs.Rings.{same_ring}
use Rattle.ring_base.specs.declared.ring_id.RingId.{RingId}
use Rattle.ring_base.specs.declared.state.State.{State}
use Rattle.ring_base.specs.declared.state.State.TheVariants.{Gather, Commit, Recovery, Operational, Stopped}
use Rattle.ring_payload.specs.declared.content.Payload.{Payload}
use Rattle.ring_payload.specs.declared.content.Payload.TheVariants.{Call, Wrapped, End, Head, Part, Pack, Snap}
use Rattle.ring_payload.specs.declared.content.Wrapped.{Wrapped as WrappedMessage}
use Rattle.ring_wire.specs.declared.message.Message.{Message}
use Rattle.ring_core_spec.specs.Windows.{holds, front_of, is_new}
use Rattle.ring_core_spec.proofs.Windows.{front_is, front_only}
use Rattle.ring_base.proofs.SameRing.{ring_same, other_ring}
use Rattle.ring_core_spec.specs.Tokens.{TokenVisit, MarkRaise, visits_in_ring, mark_from_arus, forwarded_in, raised_to, safe_mark}
use Rattle.ring_core_spec.specs.Recoveries.{inner_if_new, inner_messages}
use Rattle.ring_core_spec.specs.State.{Core}
use Rattle.ring_core_spec.specs.Views.{mark}
use Rattle.ring_core_spec.specs.Transitions.{old_ring_messages}

-- Facts of other rings

abbrev pub IsOther : {A : Type 0} → RingId → Message A → Type 0
IsOther ring x = x.ring ≡ ring → ⊥

pub holds_other : {A : Type 0} → (xs held : List (Message A)) (ring : RingId) (n : ℕ) → Each (λ (x : Message A). IsOther ring x) xs →
    holds (xs ++ held) ring n ≡ holds held ring n
holds_other [] held ring n h = refl
holds_other (x ∷ xs) held ring n h = ap (λ b. (b && (x.number == n)) || holds (xs ++ held) ring n) (other_ring x.ring ring h.0) ∙ holds_other xs held ring n h.1

pub front_other : {A : Type 0} → (xs held : List (Message A)) (ring : RingId) → Each (λ (x : Message A). IsOther ring x) xs →
    front_of (xs ++ held) ring ≡ front_of held ring
front_other xs held ring h =
    let f = front_is (xs ++ held) ring in
    front_only held ring (front_of (xs ++ held) ring)
    (record {
      below = λ n a b. sym (holds_other xs held ring n h) ∙ f.below n a b;
      next = sym (holds_other xs held ring (suc (front_of (xs ++ held) ring)) h) ∙ f.next;
    })

pub turns_other : {A : Type 0} → (v : TokenVisit A) (turns : List (TokenVisit A)) (raises : List MarkRaise) (ring : RingId) → (v.received.ring ≡ ring → ⊥) →
    safe_mark (v ∷ turns) raises ring ≡ safe_mark turns raises ring
turns_other {A} v turns raises ring n =
    ap (λ (ts : List (TokenVisit A)). max (mark_from_arus (map (λ (v : TokenVisit A). v.forwarded.aru) ts)) (raised_to ring raises))
    (cond-false (same_ring v.received.ring ring) (v ∷ visits_in_ring ring turns) (visits_in_ring ring turns)
    (other_ring v.received.ring ring n))

pub raises_other : {A : Type 0} → (x : MarkRaise) (turns : List (TokenVisit A)) (raises : List MarkRaise) (ring : RingId) → (x.ring ≡ ring → ⊥) →
    safe_mark turns (x ∷ raises) ring ≡ safe_mark turns raises ring
raises_other {A} x turns raises ring n =
    let rest = filter (λ (x : MarkRaise). same_ring x.ring ring) raises in
    ap (λ (rs : List MarkRaise). max (mark_from_arus (forwarded_in ring turns)) (greatest (map (λ (x : MarkRaise). x.mark) rs)))
    (cond-false (same_ring x.ring ring) (x ∷ rest) rest (other_ring x.ring ring n))

-- an inner message is of the installed ring
inner_other : {A : Type 0} → (old : RingId) (m : ℕ) (held : List (Message A)) (w : WrappedMessage A) (ring : RingId) → (ring ≡ old → ⊥) →
    Each (λ (x : Message A). IsOther ring x) (inner_if_new old m held w)
inner_other {A} old m held w ring n =
    cond_both (same_ring w.ring old && is_new held m old w.number) _ [] (Each (λ (x : Message A). IsOther ring x))
    (λ e. (λ k. n (sym k ∙ ring_same w.ring old (and_parts (same_ring w.ring old) (is_new held m old w.number) e).0), tt)) (λ e. tt)

unwrapped_other : {A : Type 0} → (old : RingId) (m : ℕ) (held : List (Message A)) (p : Payload A) (ring : RingId) → (ring ≡ old → ⊥) →
    Each (λ (x : Message A). IsOther ring x) (inner_messages old m held p)
unwrapped_other old m held (Wrapped w) ring n = inner_other old m held w ring n
unwrapped_other old m held (Call call) ring n = tt
unwrapped_other old m held End ring n = tt
unwrapped_other old m held (Head head) ring n = tt
unwrapped_other old m held (Part part) ring n = tt
unwrapped_other old m held (Pack pack) ring n = tt
unwrapped_other old m held (Snap snap) ring n = tt

pub gives_other : {A : Type 0} → (s : State) (c : Core A) (x : Message A) (ring : RingId) → (ring ≡ c.installed.ring → ⊥) →
    Each (λ (x : Message A). IsOther ring x) (old_ring_messages s c x)
gives_other Recovery c x ring n = unwrapped_other c.installed.ring (mark c c.installed.ring) c.held x.payload ring n
gives_other Gather c x ring n = tt
gives_other Commit c x ring n = tt
gives_other Operational c x ring n = tt
gives_other Stopped c x ring n = tt
