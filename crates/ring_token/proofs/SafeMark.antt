-- The safe mark: what determines it, and that a further visit or raise lowers none.
use Rattle.std.proofs.Common.{ℕ, ◌≤◌, max, List, [], ◌∷◌, map, filter, subst, arith}
use Rattle.std.specs.List.{AllByRecursion}
use Rattle.std.proofs.lemmas.Bool.{cond_both}
use Rattle.ring_base.specs.Rings.{same_ring}
use Rattle.ring_base.specs.Numbers.{greatest}
use Rattle.ring_base.specs.declared.ring_id.RingId.{RingId}
use Rattle.ring_base.proofs.SameRing.{ring_same}
use Rattle.ring_token.specs.TokenVisits.{TokenVisit, MarkRaise, visits_in_ring, mark_from_later_arus, mark_from_arus, forwarded_in, raised_to, safe_mark}

-- Each element of a list is at most a bound; then so is the mark computed from the list.
abbrev pub Below : ℕ → List ℕ → Type 0
Below f xs = AllByRecursion (λ x. x ≤ f) xs

mark_from_later_arus-below : (f a : ℕ) (rest : List ℕ) → a ≤ f → Below f rest → mark_from_later_arus a rest ≤ f
mark_from_later_arus-below f a [] h k = omega arith
mark_from_later_arus-below f a (b ∷ rest) h k = (let i : mark_from_later_arus b rest ≤ f = mark_from_later_arus-below f b rest k.0 k.1 in omega arith)

mark_from_arus-below : (f : ℕ) (xs : List ℕ) → Below f xs → mark_from_arus xs ≤ f
mark_from_arus-below f [] h = omega arith
mark_from_arus-below f (a ∷ rest) h = mark_from_later_arus-below f a rest h.0 h.1

greatest-below : (f : ℕ) (xs : List ℕ) → Below f xs → greatest xs ≤ f
greatest-below f [] h = omega arith
greatest-below f (x ∷ xs) h = (let i : greatest xs ≤ f = greatest-below f xs h.1 in let j : x ≤ f = h.0 in omega arith)

-- A further visit lowers no mark.
mark_from_arus-more : (a : ℕ) (xs : List ℕ) → mark_from_arus xs ≤ mark_from_arus (a ∷ xs)
mark_from_arus-more a [] = omega arith
mark_from_arus-more a (b ∷ rest) = omega arith

-- Each `aru` forwarded in a ring is at most the bound of that ring.
turns-below : {A : Type 0} → (reach : RingId → ℕ) (r : RingId) (turns : List (TokenVisit A))
    → AllByRecursion (λ (v : TokenVisit A). v.forwarded.aru ≤ reach v.received.ring) turns → Below (reach r) (forwarded_in r turns)
turns-below reach r [] h = tt
turns-below {A} reach r (v ∷ turns) h =
    cond_both (same_ring v.received.ring r) (v ∷ visits_in_ring r turns) (visits_in_ring r turns)
    (λ (vs : List (TokenVisit A)). Below (reach r) (map (λ (v : TokenVisit A). v.forwarded.aru) vs))
    (λ e. (subst (λ (q : RingId). v.forwarded.aru ≤ reach q) (ring_same v.received.ring r e) h.0, turns-below reach r turns h.1))
    (λ e. turns-below reach r turns h.1)

raises-below : (reach : RingId → ℕ) (r : RingId) (raises : List MarkRaise)
    → AllByRecursion (λ (x : MarkRaise). x.mark ≤ reach x.ring) raises
    → Below (reach r) (map (λ (x : MarkRaise). x.mark) (filter (λ (x : MarkRaise). same_ring x.ring r) raises))
raises-below reach r [] h = tt
raises-below reach r (x ∷ raises) h =
    cond_both (same_ring x.ring r) (x ∷ filter (λ (x : MarkRaise). same_ring x.ring r) raises)
    (filter (λ (x : MarkRaise). same_ring x.ring r) raises)
    (λ (xs : List MarkRaise). Below (reach r) (map (λ (x : MarkRaise). x.mark) xs))
    (λ e. (subst (λ (q : RingId). x.mark ≤ reach q) (ring_same x.ring r e) h.0, raises-below reach r raises h.1))
    (λ e. raises-below reach r raises h.1)

-- A mark is at most the bound of its ring, since all that determines it is.
pub safe_mark-below : {A : Type 0} → (reach : RingId → ℕ) (r : RingId) (turns : List (TokenVisit A)) (raises : List MarkRaise)
    → AllByRecursion (λ (v : TokenVisit A). v.forwarded.aru ≤ reach v.received.ring) turns
    → AllByRecursion (λ (x : MarkRaise). x.mark ≤ reach x.ring) raises → safe_mark turns raises r ≤ reach r
safe_mark-below reach r turns raises h k =
    let i : mark_from_arus (forwarded_in r turns) ≤ reach r = mark_from_arus-below _ _ (turns-below reach r turns h) in
    let j : raised_to r raises ≤ reach r = greatest-below _ _ (raises-below reach r raises k) in
    omega arith

-- A further visit or raise lowers no mark.

pub safe_mark-turn : {A : Type 0} → (v : TokenVisit A) (turns : List (TokenVisit A)) (raises : List MarkRaise) (r : RingId)
    → safe_mark turns raises r ≤ safe_mark (v ∷ turns) raises r
safe_mark-turn {A} v turns raises r =
    cond_both (same_ring v.received.ring r) (v ∷ visits_in_ring r turns) (visits_in_ring r turns)
    (λ (vs : List (TokenVisit A)). safe_mark turns raises r ≤ max (mark_from_arus (map (λ (v : TokenVisit A). v.forwarded.aru) vs))
    (raised_to r raises))
    (λ e. (let i : mark_from_arus (forwarded_in r turns) ≤ mark_from_arus (v.forwarded.aru ∷ forwarded_in r turns) = mark_from_arus-more v.forwarded.aru _ in omega arith))
    (λ e. omega arith)

pub safe_mark-raise : {A : Type 0} → (x : MarkRaise) (turns : List (TokenVisit A)) (raises : List MarkRaise) (r : RingId)
    → safe_mark turns raises r ≤ safe_mark turns (x ∷ raises) r
safe_mark-raise {A} x turns raises r =
    cond_both (same_ring x.ring r) (x ∷ filter (λ (x : MarkRaise). same_ring x.ring r) raises)
    (filter (λ (x : MarkRaise). same_ring x.ring r) raises) (λ (xs : List MarkRaise). safe_mark turns raises r ≤ max
    (mark_from_arus (forwarded_in r turns)) (greatest (map (λ (x : MarkRaise). x.mark) xs)))
    (λ e. omega arith)
    (λ e. omega arith)
