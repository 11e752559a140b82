-- The code's computations on words of 16 bits, as sets.
use Rattle.std.proofs.Common.{◌≡◌, ◌≢◌, ℕ, ◌+◌, ◌-◌, ◌*◌, ◌^◌, ◌/◌, ◌%◌, ◌<◌, ◌≤◌, arith, ◌∙◌, sym, inl, inr}
use Rattle.std.specs.Prelude.{bit_and, count_ones}
use Rattle.std.specs.Int.{w16, trailing_zeros}
use Rattle.std.proofs.lemmas.Bool.{cases_lt}
use Rattle.std.proofs.Math.Nat.{mod-eq_of_lt}
use Rattle.std.proofs.Math.Pow.{pow-lt}
use Rattle.std.proofs.lemmas.Nat.Bits.{bit_at-lt, bit_at_and, bit_at_not, ones_shr, same_from_bits_below, bit_at-trailing_zeros}
use lib.Bits.{and_le_l, and_lt}
use Rattle.ring_base.specs.Processors.{IsProc, IsMember, only, everybody, less, smallest, position_of}
use Rattle.ring_base.specs.Members.{member_at, bit_at_less}
use Rattle.ring_base.specs.Elements.{smallest-least, size-ones, position_of-intersection}

-- `1 << (i - 1)`
pub shl_only : (i : ℕ) → IsProc i → 1 * 2 ^ (i - 1) % 65536 ≡ only i
shl_only i proc =
    let small : 2 ^ (i - 1) < 2 ^ 16 = pow-lt {i = i - 1} {j = 16} (omega (arith, proc.0, proc.1)) in
    let one : 1 * 2 ^ (i - 1) ≡ 2 ^ (i - 1) = omega arith in
    rw one (mod-eq_of_lt small)

-- `u16::MAX >> (16 - n)`
pub shr_everybody : (n : ℕ) → IsProc n → 65535 / 2 ^ (16 - n) ≡ everybody n
shr_everybody n proc =
    let back : 16 - (16 - n) ≡ n = omega (arith, proc.1) in
    let e = ones_shr 16 (16 - n) (omega arith) in
    rw back at e

-- `a & !b`
pub and_not-less : (a b : ℕ) → a < 2 ^ 16 → b < 2 ^ 16 → bit_and a (65535 - b) ≡ less a b
and_not-less a b al bl =
    let le : less a b ≤ a = omega arith in
    let lt = and_lt 16 a (65535 - b) al (omega arith) in
    same_from_bits_below 16 _ _ lt (omega arith) (λ k within.
    let e = bit_at_and a (65535 - b) k in
    let f = bit_at_not w16 b k bl within in
    let g = bit_at_less a b k in
    let x = bit_at-lt a k in
    let y = bit_at-lt b k in
    omega arith)

-- `trailing_zeros() + 1`
pub trailing-member : (set : ℕ) → set < 2 ^ 16 → set ≢ 0 → IsProc (trailing_zeros w16 set + 1) × IsMember set (trailing_zeros w16 set + 1)
trailing-member set lt some =
    let t = bit_at-trailing_zeros w16 set (omega arith) lt in
    ((omega arith, omega (arith, t.0)), member_at set (trailing_zeros w16 set) t.1)

pub trailing-smallest : (set : ℕ) → set < 2 ^ 16 → set ≢ 0 → trailing_zeros w16 set + 1 ≡ smallest set
trailing-smallest set lt some =
    let t = bit_at-trailing_zeros w16 set (omega arith) lt in
    let m = trailing-member set lt some in
    sym (smallest-least set (trailing_zeros w16 set + 1) m.0 m.1 (λ j n.
    elim (cases_lt (j - 1) (trailing_zeros w16 set)) [
      | inl before ↦ absurd (omega (arith, t.2 (j - 1) before, n.1))
      | inr from ↦ omega (arith, n.0)
    ]))

-- `(a & ((1 << (i - 1)) - 1)).count_ones()`
pub ones-position_of : (set i : ℕ) → set < 2 ^ 16 → IsProc i → count_ones (bit_and set (1 * 2 ^ (i - 1) % 65536 - 1)) ≡ position_of set i
ones-position_of set i lt proc =
    let small : bit_and set (everybody (i - 1)) < 2 ^ 16 = omega (arith, and_le_l set (everybody (i - 1))) in
    rw (shl_only i proc) (sym (position_of-intersection set i proc.0 ∙ size-ones (bit_and set (everybody (i - 1))) small))
