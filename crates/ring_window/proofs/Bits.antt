-- The held bits of a commit entry are exactly what is held after the front.
use Rattle.std.proofs.Common.{◌≡◌, ℕ, zero, suc, ◌+◌, ◌*◌, ◌/◌, ◌%◌, ◌<◌, Bool, true, false, cond, ap, ◌∙◌, arith}
use Rattle.std.specs.Prelude.{◌==◌, List, slice_index}
use Rattle.std.specs.Int.{bit_at}
use Rattle.std.proofs.lemmas.Nat.Bits.{bit_at_lowest, bit_at-suc}
use Rattle.ring_base.specs.Numbers.{has_bit, word_from_test}
use Rattle.ring_base.specs.declared.ring_id.RingId.{RingId}
use Rattle.ring_wire.specs.Entries.{bit_of}
use Rattle.ring_wire.specs.declared.message.Message.{Message}
use Rattle.ring_window.specs.Bits.{bytes_from_bits, held_bits}
use Rattle.ring_window.specs.Held.{holds, front_of}

-- The lowest bit of a word, and the word without it.

lowest : (b w : ℕ) → b < 2 → bit_at (b + 2 * w) 0 ≡ b
lowest b w l = (let e : bit_at (b + 2 * w) 0 ≡ (b + 2 * w) % 2 = bit_at_lowest (b + 2 * w) in let f : (b + 2 * w) % 2 ≡ b = omega arith in e ∙ f)

higher : (b w i : ℕ) → b < 2 → bit_at (b + 2 * w) (suc i) ≡ bit_at w i
higher b w i l = (let f : (b + 2 * w) / 2 ≡ w = omega arith in bit_at-suc (b + 2 * w) i ∙ ap (λ n. bit_at n i) f)

test_bit : (b : Bool) (w : ℕ) → has_bit (cond b 1 0 + 2 * w) 0 ≡ b
test_bit true w = ap (λ n. n == 1) (lowest 1 w (omega arith))
test_bit false w = ap (λ n. n == 1) (lowest 0 w (omega arith))

rest_bit : (b : Bool) (w i : ℕ) → has_bit (cond b 1 0 + 2 * w) (suc i) ≡ has_bit w i
rest_bit true w i = ap (λ n. n == 1) (higher 1 w i (omega arith))
rest_bit false w i = ap (λ n. n == 1) (higher 0 w i (omega arith))

pub word_bit : (test : ℕ → Bool) (first count i : ℕ) → i < count → has_bit (word_from_test test first count) i ≡ test (first + i)
word_bit test first zero i l = absurd (omega arith)
word_bit test first (suc count) zero l = (let e : first ≡ first + 0 = omega arith in test_bit (test first) (word_from_test test (suc first) count) ∙ ap test e)
word_bit test first (suc count) (suc i) l = (let e : suc first + i ≡ first + suc i = omega arith in rest_bit
    (test first) (word_from_test test (suc first) count) i ∙ word_bit test (suc first) count i (omega arith) ∙ ap test e)

pub byte_at : (test : ℕ → Bool) (first count k : ℕ) → k < count → slice_index (bytes_from_bits test first count) k ≡ word_from_test test (first + 8 * k) 8
byte_at test first zero k l = absurd (omega arith)
byte_at test first (suc count) zero l = (let e : first ≡ first + 8 * 0 = omega arith in ap (λ n. word_from_test test n 8) e)
byte_at test first (suc count) (suc k) l =
    (let e : first + 8 + 8 * k ≡ first + 8 * suc k = omega arith in byte_at test (first + 8) count k (omega arith)
    ∙ ap (λ n. word_from_test test n 8) e)

pub bytes_bit : (test : ℕ → Bool) (first count j : ℕ) → j < 8 * count → bit_of (bytes_from_bits test first count) j ≡ test (first + j)
bytes_bit test first count j l =
    let byte : slice_index (bytes_from_bits test first count) (j / 8) ≡ word_from_test test (first + 8 * (j / 8)) 8 = byte_at test first count (j / 8) (omega arith) in
    let bit : has_bit (word_from_test test (first + 8 * (j / 8)) 8) (j % 8) ≡ test (first + 8 * (j / 8) + j % 8) =
    word_bit test (first + 8 * (j / 8)) 8 (j % 8) (omega arith) in
    let number : first + 8 * (j / 8) + j % 8 ≡ first + j = omega arith in
    ap (λ n. has_bit n (j % 8)) byte ∙ bit ∙ ap test number

pub held_bit : {A : Type 0} → (held : List (Message A)) (ring : RingId) (j : ℕ) → j < 256
    → bit_of (held_bits held ring) j ≡ holds held ring (front_of held ring + 1 + j)
held_bit held ring j l = bytes_bit (holds held ring) (front_of held ring + 1) 32 j (omega arith)
