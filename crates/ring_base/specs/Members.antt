-- Laws of sets of processors by their members.
-- Rules: Processors and sets 3
use Rattle.std.proofs.Common.{◌≡◌, ◌≢◌, ℕ, ◌⊎◌, ◌+◌, ◌-◌, ◌^◌, ◌<◌, ◌≤◌, true, arith, inl, inr, ap, eq-eqb}
use Rattle.std.specs.Prelude.{◌↔◌, bit_and, bit_xor}
use Rattle.std.specs.Int.{bit_at}
use Rattle.std.proofs.lemmas.Bool.{cases_lt, eqb-true}
use Rattle.std.proofs.lemmas.Nat.Bits.{bit_at-lt, bit_at_and, bit_at_or, bit_at_xor, bit_at-pow_same, bit_at-pow_other}
use Rattle.std.proofs.lemmas.Nat.Bits.{bit_at_ones, bit_at_ones_above, bit_at_above, same_from_bits}
use lib.Bits.{xor_add_and, and_le_l}
use Rattle.ring_base.specs.Processors.{IsProc, IsMember, IsSubset, has, within, nobody, only, everybody, union, intersection, less}

-- if bit k is 1, processor k + 1 is a member
pub member_at : (set k : ℕ) → bit_at set k ≡ 1 → IsMember set (k + 1)
member_at set k h =
    let e : k + 1 - 1 ≡ k = omega arith in
    (omega arith, rw e h)

-- a member passes the test
pub has_member : (set i : ℕ) → IsMember set i → has set i ≡ true
has_member set i m = eq-eqb _ _ m.1

-- a number of at least 1 that passes the test is a member
pub member_had : (set i : ℕ) → 1 ≤ i → has set i ≡ true → IsMember set i
member_had set i low h = (low, eqb-true _ _ h)

-- the members of a word of 16 bits are processors: 1 to 16
pub member_proc : (set i : ℕ) → set < 2 ^ 16 → IsMember set i → IsProc i
member_proc set i lt m =
    elim (cases_lt 16 i) [
      | inl above ↦
          let none = bit_at_above set 16 (i - 1) lt (omega arith) in
          absurd (omega (arith, m.1))
      | inr le ↦ (m.0, le)
    ]

-- the empty set has no member
pub nobody_member : (i : ℕ) → IsMember nobody i → ⊥
nobody_member i m = let none = bit_at_above 0 0 (i - 1) (omega arith) (omega arith) in omega (arith, m.1)

-- the set of one processor has only that member
pub only_members : (j i : ℕ) → 1 ≤ j → IsMember (only j) i ↔ (i ≡ j)
only_members j i low = (
  λ m. elim (cases_lt i j) [
    | inl less ↦
        let ne : i - 1 ≢ j - 1 = omega (arith, m.0) in
        let none = bit_at-pow_other (j - 1) (i - 1) ne in
        absurd (omega (arith, m.1))
    | inr le ↦ elim (cases_lt j i) [
      | inl more ↦
          let ne : i - 1 ≢ j - 1 = omega (arith, m.0) in
          let none = bit_at-pow_other (j - 1) (i - 1) ne in
          absurd (omega (arith, m.1))
      | inr ge ↦ omega arith
    ]
  ],
  λ e. rw e (low, bit_at-pow_same (j - 1)),
)

-- the members of the set of processors 1 to n are exactly 1 to n
pub everybody_members : (n i : ℕ) → IsMember (everybody n) i ↔ ((1 ≤ i) × (i ≤ n))
everybody_members n i = (
  λ m. elim (cases_lt n i) [
    | inl above ↦
        let none = bit_at_ones_above n (i - 1) (omega arith) in
        absurd (omega (arith, m.1))
    | inr le ↦ (m.0, le)
  ],
  λ p. (p.0, bit_at_ones n (i - 1) (omega (arith, p.0, p.1))),
)

-- the members of a union are the members of either set
pub union_members : (a b i : ℕ) → IsMember (union a b) i ↔ (IsMember a i ⊎ IsMember b i)
union_members a b i =
    let e = bit_at_or a b (i - 1) in
    let al = bit_at-lt a (i - 1) in
    let bl = bit_at-lt b (i - 1) in (
      λ m. elim (cases_lt (bit_at a (i - 1)) 1) [
        | inl none ↦ inr (m.0, omega (arith, m.1))
        | inr some ↦ inl (m.0, omega arith)
      ],
      λ u. elim u [
        | inl m ↦ (m.0, omega (arith, m.1))
        | inr m ↦ (m.0, omega (arith, m.1))
      ],
    )

-- the members of an intersection are the members of both sets
pub intersection_members : (a b i : ℕ) → IsMember (intersection a b) i ↔ (IsMember a i × IsMember b i)
intersection_members a b i =
    let e = bit_at_and a b (i - 1) in
    let al = bit_at-lt a (i - 1) in
    let bl = bit_at-lt b (i - 1) in (
      λ m. ((m.0, omega (arith, m.1)), (m.0, omega (arith, m.1))),
      λ p. (p.0.0, omega (arith, p.0.1, p.1.1)),
    )

-- the difference of two words, by exclusive or
pub less-xor : (a b : ℕ) → less a b ≡ bit_xor a (bit_and a b)
less-xor a b =
    let inner : bit_and a (bit_and a b) ≡ bit_and a b = same_from_bits _ _ (λ k.
    let e = bit_at_and a (bit_and a b) k in
    let f = bit_at_and a b k in
    omega arith) in
    let sums = xor_add_and a (bit_and a b) in
    let le = and_le_l a b in
    omega arith

-- a bit of the difference is 1 if it is 1 in the first word and 0 in the second
pub bit_at_less : (a b k : ℕ) → bit_at (less a b) k ≡ bit_at a k - bit_at b k
bit_at_less a b k =
    let e : bit_at (less a b) k ≡ bit_at (bit_xor a (bit_and a b)) k = ap (λ (x : ℕ). bit_at x k) (less-xor a b) in
    let f = bit_at_xor a (bit_and a b) k in
    let g = bit_at_and a b k in
    let al = bit_at-lt a k in
    let bl = bit_at-lt b k in
    omega arith

-- the members of a difference are the members of the first set that the second lacks
pub less_members : (a b i : ℕ) → IsMember (less a b) i ↔ (IsMember a i × (IsMember b i → ⊥))
less_members a b i =
    let e = bit_at_less a b (i - 1) in
    let al = bit_at-lt a (i - 1) in
    let bl = bit_at-lt b (i - 1) in (
      λ m. ((m.0, omega (arith, m.1)), λ n. omega (arith, m.1, n.1)),
      λ p. elim (cases_lt (bit_at b (i - 1)) 1) [
        | inl none ↦ (p.0.0, omega (arith, p.0.1))
        | inr some ↦ absurd (p.1 (p.0.0, omega arith))
      ],
    )

-- the subset test is true exactly for subsets
pub within_members : (a b : ℕ) → (within a b ≡ true) ↔ IsSubset a b
within_members a b = (
  λ h i m.
      let e = bit_at_and a b (i - 1) in
      let f : bit_at (bit_and a b) (i - 1) ≡ bit_at a (i - 1) = ap (λ (x : ℕ). bit_at x (i - 1)) (eqb-true _ _ h) in
      let bl = bit_at-lt b (i - 1) in
      (m.0, omega (arith, m.1)),
  λ h. eq-eqb _ _ (same_from_bits (bit_and a b) a (λ k.
      let e = bit_at_and a b k in
      let al = bit_at-lt a k in
      elim (cases_lt (bit_at a k) 1) [
        | inl none ↦ omega arith
        | inr some ↦
            let is : k + 1 - 1 ≡ k = omega arith in
            let one : bit_at a k ≡ 1 = omega arith in
            let there = h (k + 1) (member_at a k one) in
            let other : bit_at b k ≡ 1 = rw is at there.1 in
            omega arith
      ])),
)
