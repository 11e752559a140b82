-- The three numbers that the code keeps of a member's visits represent all that is computed from them.
use Rattle.std.proofs.Common.{◌≡◌, ℕ, suc, ◌+◌, min, max, Bool, true, false, List, [], ◌∷◌, map, filter, refl, sym, ap, ◌∙◌, arith, inl, inr}
use Rattle.std.specs.Prelude.{nat_lt, nat_le, ◌&&◌}
use Rattle.std.specs.List.{AllByRecursion, list_all}
use Rattle.std.proofs.lemmas.Bool.{cases_Bool, cond-true, le-leb, true≢false}
use Rattle.std.proofs.lemmas.Bool.Decides.{nat_tests}
use Rattle.ring_base.specs.Rings.{same_ring}
use Rattle.ring_base.specs.Numbers.{greatest, max_number}
use Rattle.ring_base.specs.declared.ring_id.RingId.{RingId}
use Rattle.ring_wire.specs.declared.token.Token.{Token}
use Rattle.ring_base.proofs.SameRing.{ring_same, ring_itself}
use Rattle.ring_token.specs.TokenVisits.{TokenVisit, MarkRaise, visits_in_ring, is_newer, is_accepted, mark_from_arus, forwarded_in, raised_to, safe_mark}
use Rattle.ring_token.specs.Histories.{TokenHistory, history_with_visit, history_with_raise, next_number, last_aru, IsTokenKept}

-- Of one ring

abbrev AreOf : {A : Type 0} → RingId → List (TokenVisit A) → Type 0
AreOf r turns = AllByRecursion (λ (v : TokenVisit _). v.received.ring ≡ r) turns

-- All of the visits are of the one ring.
turns_all : {A : Type 0} → (r : RingId) (turns : List (TokenVisit A)) → AreOf r turns → visits_in_ring r turns ≡ turns
turns_all r [] h = refl
turns_all r (v ∷ turns) h = cond-true (same_ring v.received.ring r) (v ∷ visits_in_ring r turns) (visits_in_ring r turns)
    (ring_itself v.received.ring r h.0) ∙ ap (λ l. v ∷ l) (turns_all r turns h.1)

-- Accepting

test_next : (n m k : ℕ) → (nat_lt n k && nat_le m k) ≡ nat_le (max (suc n) m) k
test_next n m k = grind (arith, nat_tests)

newer_than : {A : Type 0} → (turns : List (TokenVisit A)) (k : ℕ) → list_all (λ (v : TokenVisit A). nat_lt v.received.number k) turns ≡ nat_le (next_number turns) k
newer_than [] k = sym (le-leb 0 k (omega arith))
newer_than {A} (v ∷ turns) k = ap (λ b. nat_lt v.received.number k && b) (newer_than turns k) ∙ test_next v.received.number (next_number turns) k

pub newer_by : {A : Type 0} → (h : TokenHistory A) (next aru safe : ℕ) (t : Token) → IsTokenKept h next aru safe
    → t.ring ≡ h.ring → is_newer h.turns t ≡ nat_le next t.number
newer_by {A} h next aru safe t k e =
    ap (λ (r : RingId). list_all (λ (v : TokenVisit A). nat_lt v.received.number t.number) (visits_in_ring r h.turns)) e
    ∙ ap (λ (vs : List (TokenVisit A)). list_all (λ (v : TokenVisit A). nat_lt v.received.number t.number) vs) (turns_all h.ring h.turns k.turns_in)
    ∙ newer_than h.turns t.number
    ∙ ap (λ n. nat_le n t.number) (sym k.next_is)

none_passes : (b x y z w : Bool) → b ≡ false → (b && x && z && w) ≡ (b && y && z && w)
none_passes false x y z w e = refl
none_passes true x y z w e = absurd (true≢false e)

pub accepted_by : {A : Type 0} → (h : TokenHistory A) (next aru safe high : ℕ) (t : Token) → IsTokenKept h next aru safe →
    (same_ring t.ring h.ring && nat_le next t.number && nat_lt t.number max_number && nat_le high t.seq) ≡ is_accepted h.ring h.turns high t
accepted_by h next aru safe high t k =
    elim (cases_Bool (same_ring t.ring h.ring)) [
      | inl e ↦ ap (λ b. same_ring t.ring h.ring && b && nat_lt t.number max_number && nat_le high t.seq)
          (sym (newer_by h next aru safe t k (ring_same t.ring h.ring e)))
      | inr e ↦ none_passes (same_ring t.ring h.ring) (nat_le next t.number) (is_newer h.turns t) (nat_lt t.number max_number) (nat_le high t.seq) e
    ]

-- The safe mark

-- A further visit: the lesser of its `aru` and the last one.
pub mark_more : {A : Type 0} → (v : TokenVisit A) (turns : List (TokenVisit A))
    → mark_from_arus (v.forwarded.aru ∷ map (λ (v : TokenVisit A). v.forwarded.aru) turns) ≡ max (min v.forwarded.aru (last_aru turns))
    (mark_from_arus (map (λ (v : TokenVisit A). v.forwarded.aru) turns))
mark_more v [] = omega arith
mark_more v (w ∷ turns) = refl

forwarded_all : {A : Type 0} → (r : RingId) (turns : List (TokenVisit A)) → AreOf r turns → forwarded_in r turns ≡ map (λ (v : TokenVisit A). v.forwarded.aru) turns
forwarded_all {A} r turns h = ap (λ (vs : List (TokenVisit A)). map (λ (v : TokenVisit A). v.forwarded.aru) vs) (turns_all r turns h)

mark_with_turn : {A : Type 0} → (r : RingId) (v : TokenVisit A) (turns : List (TokenVisit A)) (raises : List MarkRaise) → v.received.ring ≡ r → AreOf r turns →
    safe_mark (v ∷ turns) raises r ≡ max (min v.forwarded.aru (last_aru turns)) (safe_mark turns raises r)
mark_with_turn {A} r v turns raises e h =
    let more : mark_from_arus (forwarded_in r (v ∷ turns)) ≡ mark_from_arus (v.forwarded.aru ∷ map (λ (v : TokenVisit A). v.forwarded.aru) turns) =
    ap mark_from_arus (forwarded_all r (v ∷ turns) (e, h)) in
    let less : mark_from_arus (forwarded_in r turns) ≡ mark_from_arus (map (λ (v : TokenVisit A). v.forwarded.aru) turns) = ap mark_from_arus (forwarded_all r turns h) in
    let step : mark_from_arus (v.forwarded.aru ∷ map (λ (v : TokenVisit A). v.forwarded.aru) turns) ≡ max (min v.forwarded.aru (last_aru turns))
    (mark_from_arus (map (λ (v : TokenVisit A). v.forwarded.aru) turns)) = mark_more v turns in
    regrouped _ _ _ _ _ (more ∙ step) less
  where
    regrouped : (one all p m raised : ℕ) → one ≡ max p m → all ≡ m → max one raised ≡ max p (max all raised)
    regrouped one all p m raised a b = omega arith

mark_with_raise : {A : Type 0} → (r : RingId) (m : ℕ) (turns : List (TokenVisit A)) (raises : List MarkRaise)
    → safe_mark turns (record { ring = r; mark = m } ∷ raises) r ≡ max m (safe_mark turns raises r)
mark_with_raise r m turns raises =
    let x : MarkRaise = record { ring = r; mark = m } in
    let e : filter (λ (y : MarkRaise). same_ring y.ring r) (x ∷ raises) ≡ x ∷ filter (λ (y : MarkRaise). same_ring y.ring r)
    raises = cond-true (same_ring r r) (x ∷ filter (λ (y : MarkRaise). same_ring y.ring r) raises)
    (filter (λ (y : MarkRaise). same_ring y.ring r) raises) (ring_itself r r refl) in
    let g : raised_to r (x ∷ raises) ≡ max m (raised_to r raises) = ap (λ (ys : List MarkRaise). greatest (map (λ (y : MarkRaise). y.mark) ys)) e in
    regrouped _ _ _ _ g
  where
    regrouped : (one m all by : ℕ) → one ≡ max m all → max by one ≡ max m (max by all)
    regrouped one m all by g = omega arith

-- Keeping

pub kept_turn : {A : Type 0} → (h : TokenHistory A) (v : TokenVisit A) (next aru safe next_after aru_after safe_after : ℕ)
    → IsTokenKept h next aru safe → v.received.ring ≡ h.ring →
    next_after ≡ max next (v.received.number + 1) → aru_after ≡ v.forwarded.aru → safe_after ≡ max safe (min aru v.forwarded.aru)
    → IsTokenKept (history_with_visit h v) next_after aru_after safe_after
kept_turn h v next aru safe next_after aru_after safe_after k e n a s =
    let m = mark_with_turn h.ring v h.turns h.raises e k.turns_in in
    record {
      turns_in = (e, k.turns_in);
      raises_in = k.raises_in;
      next_is = (let f : next ≡ next_number h.turns = k.next_is in omega arith);
      aru_is = a;
      safe_is = (let f : aru ≡ last_aru h.turns = k.aru_is in let g : safe ≡ safe_mark h.turns h.raises h.ring = k.safe_is in joined _ _ _ _ _ _ _ s f g m);
    }
  where
    joined : (after safe aru forwarded last mark more : ℕ) → after ≡ max safe (min aru forwarded) → aru ≡ last → safe ≡ mark
        → more ≡ max (min forwarded last) mark → after ≡ more
    joined after safe aru forwarded last mark more s f g m = omega arith

pub kept_raise : {A : Type 0} → (h : TokenHistory A) (mark next aru safe safe_after : ℕ) → IsTokenKept h next aru safe
    → safe_after ≡ max safe mark → IsTokenKept (history_with_raise h mark) next aru safe_after
kept_raise h mark next aru safe safe_after k s =
    let m = mark_with_raise h.ring mark h.turns h.raises in
    record {
      turns_in = k.turns_in;
      raises_in = (refl, k.raises_in);
      next_is = k.next_is;
      aru_is = k.aru_is;
      safe_is = (let g : safe ≡ safe_mark h.turns h.raises h.ring = k.safe_is in joined _ _ _ _ _ s g m);
    }
  where
    joined : (after safe raised mark more : ℕ) → after ≡ max safe raised → safe ≡ mark → more ≡ max raised mark → after ≡ more
    joined after safe raised mark more s g m = omega arith
