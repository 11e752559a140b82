-- One more visit as a fact: the mark of its ring, and the `aru` forwarded there.
use Rattle.std.proofs.Common.{◌≡◌, ℕ, ◌+◌, ◌≤◌, min, max, false, List, ◌∷◌, map, length, ap, ◌∙◌, sym, subst, inl, inr, arith}
use Rattle.std.proofs.lemmas.Bool.{cond-true, cond-false}
use Rattle.ring_base.specs.Rings.{same_ring}
use Rattle.ring_base.specs.declared.ring_id.RingId.{RingId}
use Rattle.ring_base.proofs.SameRing.{ring_itself}
use Rattle.ring_payload.specs.declared.content.Payload.{Payload}
use Rattle.ring_wire.specs.declared.token.Token.{Token}
use Rattle.ring_window.specs.Held.{front_of}
use Rattle.ring_window.specs.Windows.{WindowHistory}
use Rattle.ring_token.specs.TokenVisits.{TokenVisit, MarkRaise, visits_in_ring, mark_from_arus, forwarded_in, raised_to, safe_mark}
use Rattle.ring_token.specs.Histories.{TokenHistory, last_aru}
use Rattle.ring_token.proofs.VisitNumbers.{mark_more}
use Rattle.ring_token.proofs.Arus.{aru_step}
use Rattle.ring_srp_state.specs.Setting.{turn_in}

-- The mark of one ring

pub turned : {A : Type 0} (v : TokenVisit A) (turns : List (TokenVisit A)) (ring : RingId) → v.received.ring ≡ ring → visits_in_ring ring (v ∷ turns) ≡ v ∷ visits_in_ring ring turns
turned v turns ring e = cond-true (same_ring v.received.ring ring) (v ∷ visits_in_ring ring turns) (visits_in_ring ring turns) (ring_itself v.received.ring ring e)

pub unturned : {A : Type 0} (v : TokenVisit A) (turns : List (TokenVisit A)) (ring : RingId) → same_ring v.received.ring ring ≡ false →
    visits_in_ring ring (v ∷ turns) ≡ visits_in_ring ring turns
unturned v turns ring e = cond-false (same_ring v.received.ring ring) (v ∷ visits_in_ring ring turns) (visits_in_ring ring turns) e

-- after one more visit, the mark is the lesser of its `aru` and the last one, or stays
pub mark_turned : {A : Type 0} (v : TokenVisit A) (turns : List (TokenVisit A)) (raises : List MarkRaise) (ring : RingId) → v.received.ring ≡ ring →
    safe_mark (v ∷ turns) raises ring ≡ max (min v.forwarded.aru (last_aru (visits_in_ring ring turns))) (safe_mark turns raises ring)
mark_turned {A} v turns raises ring e =
    let a : mark_from_arus (forwarded_in ring (v ∷ turns)) ≡ max (min v.forwarded.aru (last_aru (visits_in_ring ring turns))) (mark_from_arus (forwarded_in ring turns)) =
    ap (λ (vs : List (TokenVisit A)). mark_from_arus (map (λ (x : TokenVisit A). x.forwarded.aru) vs)) (turned v turns ring e) ∙ mark_more v (visits_in_ring ring turns) in
    regrouped _ _ _ _ a
  where
    regrouped : (one p m raised : ℕ) → one ≡ max p m → max one raised ≡ max p (max m raised)
    regrouped one p m raised a = omega arith

pub mark_unturned : {A : Type 0} (v : TokenVisit A) (turns : List (TokenVisit A)) (raises : List MarkRaise) (ring : RingId) → same_ring v.received.ring ring ≡ false →
    safe_mark (v ∷ turns) raises ring ≡ safe_mark turns raises ring
mark_unturned {A} v turns raises ring e = ap (λ (vs : List (TokenVisit A)). max (mark_from_arus (map (λ (x : TokenVisit A). x.forwarded.aru) vs)) (raised_to ring raises))
    (unturned v turns ring e)

-- so it is at most what the visit and those before it forwarded
pub mark_within : {A : Type 0} (v : TokenVisit A) (turns : List (TokenVisit A)) (raises : List MarkRaise) (ring : RingId) (n : ℕ) → v.received.ring ≡ ring →
    last_aru (visits_in_ring ring turns) ≤ n → safe_mark turns raises ring ≤ n → safe_mark (v ∷ turns) raises ring ≤ n
mark_within v turns raises ring n e l m = within _ _ _ _ n (mark_turned v turns raises ring e) l m
  where
    within : (one forwarded last before n : ℕ) → one ≡ max (min forwarded last) before → last ≤ n → before ≤ n → one ≤ n
    within one forwarded last before n e l m = omega arith

pub mark_risen : {A : Type 0} (v : TokenVisit A) (turns : List (TokenVisit A)) (raises : List MarkRaise) (ring : RingId) → v.received.ring ≡ ring →
    safe_mark turns raises ring ≤ safe_mark (v ∷ turns) raises ring
mark_risen v turns raises ring e = omega (arith, mark_turned v turns raises ring e)

pub led_turned : {A : Type 0} (v : TokenVisit A) (turns : List (TokenVisit A)) (ring : RingId) (n : ℕ) → v.received.ring ≡ ring → v.forwarded.aru ≤ n →
    last_aru (visits_in_ring ring (v ∷ turns)) ≤ n
led_turned {A} v turns ring n e l = subst (λ (vs : List (TokenVisit A)). last_aru vs ≤ n) (sym (turned v turns ring e)) l

pub led_unturned : {A : Type 0} (v : TokenVisit A) (turns : List (TokenVisit A)) (ring : RingId) (n : ℕ) → same_ring v.received.ring ring ≡ false →
    last_aru (visits_in_ring ring turns) ≤ n → last_aru (visits_in_ring ring (v ∷ turns)) ≤ n
led_unturned {A} v turns ring n e l = subst (λ (vs : List (TokenVisit A)). last_aru vs ≤ n) (sym (unturned v turns ring e)) l

-- The `aru` that a visit forwards is at most the front
pub aru_within : {A : Type 0} (w : WindowHistory A) (h : TokenHistory A) (t : Token) (remaining_requests : List ℕ) (fresh : List (Payload A)) →
    (turn_in w h t remaining_requests fresh).forwarded.aru ≤ front_of w.held w.ring
aru_within w h t remaining_requests fresh = elim (aru_step h.me (front_of w.held w.ring) (t.seq + length fresh) t) [
  | inl s ↦ omega (arith, s.aru_is)
  | inr s ↦ omega (arith, s.aru_is, s.below)
]
