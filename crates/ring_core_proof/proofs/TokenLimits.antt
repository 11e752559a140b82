-- A token that a visit forwards keeps the limits: its numbers by the tests and the room of the visit, its requests by
-- how they are merged.
use Rattle.std.proofs.Common.{◌≡◌, ℕ, zero, suc, ◌+◌, ◌-◌, ◌<◌, ◌≤◌, min, inl, inr, Bool, true, false, ◌==◌, cond, List}
use Rattle.std.proofs.Common.{[], ◌∷◌, length, Option, Some, None, refl, sym, arith}
use Rattle.std.specs.Prelude.{nat_lt, not, filter, take}
use Rattle.std.specs.List.{AllByRecursion as Each}
use Rattle.std.proofs.lemmas.Bool.{cond_both, cases_lt, and_from, or_parts, ltb-true, lt-ltb, ltb-false, le-leb, eqb-true, eqb-false, false≢true}
use Rattle.ring_base.specs.Numbers.{max_number, window_size, numbers_from, insert_ascending, merged_ascending}
use Rattle.ring_base.specs.Processors.{IsProc}
use Rattle.ring_base.specs.declared.ring_id.RingId.{RingId}
use Rattle.ring_base.proofs.Each.{each-weaker, each-filter}
use Rattle.ring_wire.specs.Rings.{SomeProcFits, RingFits}
use Rattle.ring_wire.specs.declared.message.Message.{Message}
use Rattle.ring_wire.specs.declared.token.Token.{Token}
use Rattle.ring_wire.specs.Tokens.{TokenFits}
use Rattle.ring_wire.specs.Ascending.{is_ascending_within, is_ascending_within-each, is_ascending_within-increasing, IsAboveUpTo}
use Rattle.ring_core_spec.specs.Windows.{holds, missing}
use Rattle.ring_core_spec.specs.Tokens.{first_token, stays_requested, requests_left, is_held_back_by_self, may_set_aru, requests_after, token_after}

-- Requests

-- each request is above the one before it, the first above `low`, and none above `high`
abbrev Climbs : ℕ → ℕ → List ℕ → Type 0
Climbs low high [] = Unit {0}
Climbs low high (x ∷ xs) = (low < x) × (x ≤ high) × Climbs x high xs

from_lower : (a b high : ℕ) (xs : List ℕ) → a ≤ b → Climbs b high xs → Climbs a high xs
from_lower a b high [] l h = tt
from_lower a b high (x ∷ xs) l (m, n, h) = (omega arith, n, h)

climbs-is_ascending_within : (low high : ℕ) (xs : List ℕ) → Climbs low high xs → is_ascending_within low high xs ≡ true
climbs-is_ascending_within low high [] h = refl
climbs-is_ascending_within low high (x ∷ xs) (m, n, h) = and_from (nat_lt low x) _ (lt-ltb low x m) (and_from _ _ (le-leb x high n) (climbs-is_ascending_within x high xs h))

climbs-filter : (p : ℕ → Bool) (low high : ℕ) (xs : List ℕ) → Climbs low high xs → Climbs low high (filter p xs)
climbs-filter p low high [] h = tt
climbs-filter p low high (x ∷ xs) (m, n, h) =
    cond_both (p x) (x ∷ filter p xs) (filter p xs) (Climbs low high) (λ e. (m, n, climbs-filter p x high xs h))
    (λ e. climbs-filter p low high xs (from_lower low x high xs (omega arith) h))

climbs-take : (k low high : ℕ) (xs : List ℕ) → Climbs low high xs → Climbs low high (take k xs)
climbs-take zero low high xs h = tt
climbs-take (suc k) low high [] h = tt
climbs-take (suc k) low high (x ∷ xs) (m, n, h) = (m, n, climbs-take k x high xs h)

climbs-numbers : (low high first count : ℕ) → low < first → count ≤ suc high - first → Climbs low high (numbers_from first count)
climbs-numbers low high first zero l h = tt
climbs-numbers low high first (suc count) l h = (l, omega arith, climbs-numbers first high (suc first) count (omega arith) (omega arith))

above : (n x : ℕ) → x ≤ n → (n ≡ x → ⊥) → x < n
above n x l other = elim (cases_lt x n) [ inl lt ↦ lt | inr ge ↦ absurd (other (omega arith)) ]

climbs-insert : (n low high : ℕ) (xs : List ℕ) → low < n → n ≤ high → Climbs low high xs → Climbs low high (insert_ascending n xs)
climbs-insert n low high [] l h c = (l, h, tt)
climbs-insert n low high (x ∷ xs) l h (a, b, c) =
    cond_both (nat_lt n x) (n ∷ x ∷ xs) (cond (n == x) (x ∷ xs) (x ∷ insert_ascending n xs)) (Climbs low high)
    (λ e. (l, h, (ltb-true n x e, b, c)))
    (λ e. cond_both (n == x) (x ∷ xs) (x ∷ insert_ascending n xs) (Climbs low high) (λ s. (a, b, c))
    (λ s. (let up : x ≤ n = ltb-false n x e in let other : n ≡ x → ⊥ = eqb-false n x s in (a, b, climbs-insert n x high xs (above n x up other) h c))))

climbs-merged_ascending : (low high : ℕ) (xs ys : List ℕ) → Each (IsAboveUpTo low high) xs → Climbs low high ys → Climbs low high (merged_ascending xs ys)
climbs-merged_ascending low high [] ys h c = c
climbs-merged_ascending low high (x ∷ xs) ys h c = climbs-insert x low high (merged_ascending xs ys) h.0.0 h.0.1 (climbs-merged_ascending low high xs ys h.1 c)

-- the requests of a visit
pub requests_climb : {A : Type 0} → (held : List (Message A)) (ring : RingId) (mark : ℕ) (test : ℕ → Bool) (asked : List ℕ) (seq upto : ℕ) → seq ≤ upto →
    Each (λ n. (1 ≤ n) × (n ≤ seq)) asked → Climbs 0 upto (requests_after (requests_left mark test asked) (missing held ring mark upto))
requests_climb held ring mark test asked seq upto l each =
    climbs-take 32 0 upto (merged_ascending (requests_left mark test asked) (missing held ring mark upto))
    (climbs-merged_ascending 0 upto (requests_left mark test asked) (missing held ring mark upto)
    (each-weaker (λ n. (1 ≤ n) × (n ≤ seq)) (IsAboveUpTo 0 upto) (λ n b. (omega (arith, b.0), omega (arith, b.1))) (requests_left mark test asked)
    (each-filter (λ n. (1 ≤ n) × (n ≤ seq)) (stays_requested mark test) asked each))
    (climbs-filter (λ n. not (holds held ring n)) 0 upto (numbers_from (mark + 1) (min window_size (upto - mark)))
    (climbs-numbers 0 upto (mark + 1) (min window_size (upto - mark)) (omega arith) (omega arith))))

-- The `aru` and the processor that holds it back

-- a token that is visited: one that arrived, or the ring's first
pub record MayGo (t : Token) : Type 0 where
  pub ring : RingFits t.ring
  pub ring_counted : 1 ≤ t.ring.seq
  pub number : t.number < max_number
  pub seq : t.seq ≤ max_number
  pub aru : t.aru ≤ t.seq
  pub aru_id : SomeProcFits t.aru_id
  pub none : t.aru_id ≡ None → t.aru ≡ t.seq
  pub held_back : t.aru ≡ t.seq → t.aru_id ≡ None
  pub each : Each (λ n. (1 ≤ n) × (n ≤ t.seq)) t.requests

pub came_goes : (t : Token) → TokenFits t → t.number < max_number → MayGo t
came_goes t f l =
    record {
      ring = f.ring;
      ring_counted = f.ring_counted;
      number = l;
      seq = f.seq;
      aru = f.aru;
      aru_id = f.aru_id;
      none = f.aru_id_none.0;
      held_back = f.aru_id_none.1;
      each = f.each;
    }

pub first_goes : (r : RingId) → RingFits r → 1 ≤ r.seq → MayGo (first_token r)
first_goes r f l =
    record {
      ring = f;
      ring_counted = l;
      number = omega arith;
      seq = omega arith;
      aru = omega arith;
      aru_id = tt;
      none = λ e. refl;
      held_back = λ e. refl;
      each = tt;
    }

-- a token that another processor holds back
another : (me : ℕ) (o : Option ℕ) → is_held_back_by_self me o ≡ false → o ≡ None → ⊥
another me None h e = false≢true (sym h)
another me (Some i) h e = (let x : ⊥ = cc in x)

record ArusFit (aru seq : ℕ) (id : Option ℕ) : Type 0 where
  pub within : aru ≤ seq
  pub proc : SomeProcFits id
  pub none : id ≡ None → aru ≡ seq
  pub held_back : aru ≡ seq → id ≡ None

own_fits : (me front seq : ℕ) (b : Bool) → (front == seq) ≡ b → IsProc me → front ≤ seq → ArusFit front seq (cond b None (Some me))
own_fits me front seq true e p l = record { within = l; proc = tt; none = λ n. eqb-true front seq e; held_back = λ s. refl }
own_fits me front seq false e p l =
    record { within = l; proc = p; none = λ n. absurd (let x : ⊥ = cc in x); held_back = λ s. absurd (eqb-false front seq e s) }

arus_fit : (me front seq : ℕ) (t : Token) (b : Bool) → may_set_aru me front t ≡ b → IsProc me → front ≤ seq → t.seq ≤ seq → MayGo t →
    ArusFit (cond b front t.aru) seq (cond b (cond (front == seq) None (Some me)) t.aru_id)
arus_fit me front seq t true e p l s g = own_fits me front seq (front == seq) refl p l
arus_fit me front seq t false e p l s g =
    let other = another me t.aru_id (or_parts (nat_lt front t.aru) (is_held_back_by_self me t.aru_id) e).1 in
    let behind : t.aru ≤ t.seq = g.aru in
    record {
      within = omega arith;
      proc = g.aru_id;
      none = λ n. absurd (other n);
      held_back = λ w. g.held_back (omega arith);
    }

-- The token

pub token_fits : (me front sent : ℕ) (requests : List ℕ) (t : Token) → IsProc me → MayGo t → front ≤ t.seq + sent → t.seq + sent ≤ max_number →
    length requests ≤ 32 → Climbs 0 (t.seq + sent) requests → TokenFits (token_after me front sent requests t)
token_fits me front sent requests t p g l m few climbs =
    let a = arus_fit me front (t.seq + sent) t (may_set_aru me front t) refl p l (omega arith) g in
    let up = climbs-is_ascending_within 0 (t.seq + sent) requests climbs in
    let below : t.number < max_number = g.number in
    record {
      ring = g.ring;
      ring_counted = g.ring_counted;
      number_counted = omega arith;
      number = omega arith;
      aru = a.within;
      seq = m;
      aru_id = a.proc;
      aru_id_none = (a.none, a.held_back);
      few = few;
      ascending = is_ascending_within-increasing 0 (t.seq + sent) requests up;
      each = each-weaker (IsAboveUpTo 0 (t.seq + sent)) (λ n. (1 ≤ n) × (n ≤ t.seq + sent)) (λ n b. (omega (arith, b.0), b.1)) requests
          (is_ascending_within-each 0 (t.seq + sent) requests up);
    }
