-- The front of what is held: each number up to it is held, the next is not, and with more held it is no smaller.
use Rattle.std.proofs.Common.{◌≡◌, ℕ, zero, suc, ◌+◌, ◌≤◌, ◌<◌, Bool, true, false, List, [], ◌∷◌, map, inl, inr, eqb, arith}
use Rattle.std.specs.List.{prefix_len}
use Rattle.std.proofs.lemmas.Bool.{cases_Bool, cases_lt, cond_both, cond-true, and_parts, or_cases, eqb-true, both_ways, false≢true}
use Rattle.ring_base.specs.Rings.{same_ring}
use Rattle.ring_base.specs.Numbers.{numbers_from, greatest}
use Rattle.ring_base.specs.declared.ring_id.RingId.{RingId}
use Rattle.ring_wire.specs.declared.message.Message.{Message}
use Rattle.ring_window.specs.Held.{is_numbered, holds, of_ring, highest, front_of, IsFrontIn}

-- The prefix of `count` successive numbers that pass a test: all in it pass, and if it ends before the last, the next
-- number fails.
record Run (p : ℕ → Bool) (first count k : ℕ) : Type 0 where
  below : (n : ℕ) → first ≤ n → n < first + k → p n ≡ true
  next : k < count → p (first + k) ≡ false
  short : k ≤ count

run : (p : ℕ → Bool) (first count : ℕ) → Run p first count (prefix_len p (numbers_from first count))
run p first zero = record { below = λ n h l. absurd (omega arith); next = λ l. absurd (omega arith); short = omega arith }
run p first (suc count) =
    let r = run p (suc first) count in
    cond_both (p first) (1 + prefix_len p (numbers_from (suc first) count)) 0 (Run p first (suc count))
    (λ e. record {
      below = λ n h l. elim (cases_lt first n) [ inl a ↦ r.below n (omega arith) (omega arith) | inr a ↦ (let q : first ≡ n = omega arith in rw q at e) ];
      next = λ l. (let q : suc first + prefix_len p (numbers_from (suc first) count) ≡ first
          + (1 + prefix_len p (numbers_from (suc first) count)) = omega arith in rw q at (r.next (omega arith)));
      short = (let q : prefix_len p (numbers_from (suc first) count) ≤ count = r.short in omega arith);
    })
    (λ e. record { below = λ n h l. absurd (omega arith); next = λ l. (let q : first ≡ first + 0 = omega arith in rw q at e); short = omega arith })

-- No number above the highest is held.
pub highest_covers : {A : Type 0} → (held : List (Message A)) (ring : RingId) (n : ℕ) → holds held ring n ≡ true → n ≤ highest held ring
highest_covers [] ring n h = absurd (false≢true h)
highest_covers {A} (x ∷ held) ring n h =
    elim (or_cases (is_numbered ring n x) (holds held ring n) h) [
      | inl e ↦ (let p : (same_ring x.ring ring ≡ true) × (eqb x.number n ≡ true) = and_parts _ (eqb x.number n) e in
          let q : x.number ≡ n = eqb-true _ _ p.1 in
          rw (cond-true (same_ring x.ring ring) (x ∷ of_ring ring held) (of_ring ring held) p.0) (omega arith))
      | inr e ↦ (let q : n ≤ highest held ring = highest_covers held ring n e in
          cond_both (same_ring x.ring ring) (x ∷ of_ring ring held) (of_ring ring held)
          (λ (ys : List (Message A)). n ≤ greatest (map (λ (y : Message A). y.number) ys)) (λ f. omega arith)
          (λ f. q))
    ]

pub front_is : {A : Type 0} → (held : List (Message A)) (ring : RingId) → IsFrontIn held ring (front_of held ring)
front_is held ring =
    let r = run (holds held ring) 1 (highest held ring) in
    record {
      below = λ n a b. r.below n a (omega arith);
      next = elim (cases_Bool (holds held ring (suc (front_of held ring)))) [
        | inl e ↦ (let q : suc (front_of held ring) ≤ highest held ring = highest_covers held ring _ e in
            let f : 1 + front_of held ring ≡ suc (front_of held ring) = omega arith in
            rw f at (r.next (omega arith)))
        | inr e ↦ e
      ];
    }

-- Of two fronts none is greater.
front_least : {A : Type 0} → (held : List (Message A)) (ring : RingId) (j k : ℕ) → IsFrontIn held ring j → IsFrontIn held ring k → j ≤ k
front_least held ring j k f g =
    elim (cases_lt k j) [
      | inl l ↦ absurd (both_ways (holds held ring (suc k)) g.next (f.below (suc k) (omega arith) (omega arith)))
      | inr l ↦ l
    ]

pub front_only : {A : Type 0} → (held : List (Message A)) (ring : RingId) (k : ℕ) → IsFrontIn held ring k → k ≡ front_of held ring
front_only held ring k f =
    let a : k ≤ front_of held ring = front_least held ring k (front_of held ring) f (front_is held ring) in
    let b : front_of held ring ≤ k = front_least held ring (front_of held ring) k (front_is held ring) f in
    omega arith

-- If all that was held is held now, the front is no smaller.
pub front_grows : {A : Type 0} → (old new : List (Message A)) (ring : RingId)
    → ((n : ℕ) → holds old ring n ≡ true → holds new ring n ≡ true) → front_of old ring ≤ front_of new ring
front_grows old new ring more =
    elim (cases_lt (front_of new ring) (front_of old ring)) [
      | inl l ↦ absurd (both_ways (holds new ring (suc (front_of new ring))) (front_is new ring).next
          (more _ ((front_is old ring).below _ (omega arith) (omega arith))))
      | inr l ↦ l
    ]

-- The front is at most the highest number.
pub front_short : {A : Type 0} → (held : List (Message A)) (ring : RingId) → front_of held ring ≤ highest held ring
front_short held ring = (run (holds held ring) 1 (highest held ring)).short
