-- The missing numbers, counted from one clear bit to the next; and the bits of a commit entry, computed from the words.
use Rattle.std.proofs.Common.{◌≡◌, ℕ, zero, suc, ◌+◌, ◌-◌, ◌*◌, ◌<◌, ◌≤◌, min, Bool, true, false, List, [], ◌∷◌, ◌++◌}
use Rattle.std.proofs.Common.{length, take, filter, Option, refl, ap, ◌∙◌, sym, inl, inr, arith, append_assoc}
use Rattle.std.specs.Prelude.{not, slice_index}
use Rattle.std.proofs.lemmas.Bool.{cases_lt, cond-true, cond-false}
use Rattle.std.proofs.lemmas.List.{append-nil, ext_get_or, length_push}
use Rattle.ring_base.specs.Numbers.{numbers_from, word_from_test}
use Rattle.ring_wire.specs.declared.message.Message.{Message}
use Rattle.ring_window.specs.Bits.{is_set, IsFirstClear, bytes_from_bits, held_bits}
use Rattle.ring_window.specs.Held.{holds, front_of}
use Rattle.ring_window.specs.Windows.{WindowHistory, first_missing}
use Rattle.ring_window.specs.Slots.{IsWindow}
use Rattle.ring_window.proofs.Bits.{byte_at}
use Rattle.ring_window.proofs.HeldFront.{front_is}
use Rattle.ring_window.proofs.WordBits.{word_from_test-same}

-- Numbers that fail the test are left out.
passed : (p : ℕ → Bool) (first count k : ℕ) → k ≤ count → ((n : ℕ) → first ≤ n → n < first + k → p n ≡ false)
    → filter p (numbers_from first count) ≡ filter p (numbers_from (first + k) (count - k))
passed p first count zero l h = (let a : first ≡ first + 0 = omega arith in let b : count
    ≡ count - 0 = omega arith in ap (λ n. filter p (numbers_from n count)) a
    ∙ ap (λ n. filter p (numbers_from (first + 0) n)) b)
passed p first zero (suc k) l h = absurd (omega arith)
passed p first (suc count) (suc k) l h =
    let a : suc first + k ≡ first + suc k = omega arith in
    let b : count - k ≡ suc count - suc k = omega arith in
    cond-false (p first) (first ∷ filter p (numbers_from (suc first) count)) (filter p (numbers_from (suc first) count)) (h first (omega arith) (omega arith))
    ∙ passed p (suc first) count k (omega arith) (λ n x y. h n (omega arith) (omega arith))
    ∙ ap (λ n. filter p (numbers_from n (count - k))) a ∙ ap (λ n. filter p (numbers_from (first + suc k) n)) b

-- The missing ones of `count` numbers from one after the safe mark on.
abbrev pub lacks : {A : Type 0} → WindowHistory A → ℕ → ℕ → List ℕ
lacks w offset count = filter (λ n. not (holds w.held w.ring n)) (numbers_from (w.mark + 1 + offset) count)

-- Up to a limit, nothing is missing if all is held.
lacks_to : {A : Type 0} (w : WindowHistory A) (a b end : ℕ) → a ≤ b → ((j : ℕ) → a ≤ j → j < b → holds w.held w.ring (w.mark + 1 + j) ≡ true)
    → lacks w a (end - a) ≡ lacks w b (end - b)
lacks_to w a b end l held =
    let p = λ (n : ℕ). not (holds w.held w.ring n) in
    let none : (n : ℕ) → w.mark + 1 + a ≤ n → n < w.mark + 1 + b → p n ≡ false =
    λ n x y. (let e : n ≡ w.mark + 1 + (n - w.mark - 1) = omega arith in ap p e
    ∙ ap not (held (n - w.mark - 1) (omega arith) (omega arith))) in
    elim (cases_lt end b) [
      | inl short ↦
          let r : end - a - (end - a) ≡ 0 = omega arith in
          let s : end - b ≡ 0 = omega arith in
          passed p (w.mark + 1 + a) (end - a) (end - a) (omega arith) (λ n x y. none n x (omega arith))
          ∙ ap (λ n. filter p (numbers_from (w.mark + 1 + a + (end - a)) n)) r ∙ sym (ap (λ n. filter p (numbers_from (w.mark + 1 + b) n)) s)
      | inr far ↦
          let r : w.mark + 1 + a + (b - a) ≡ w.mark + 1 + b = omega arith in
          let s : end - a - (b - a) ≡ end - b = omega arith in
          passed p (w.mark + 1 + a) (end - a) (b - a) (omega arith) (λ n x y. none n x (omega arith))
          ∙ ap (λ n. filter p (numbers_from n (end - a - (b - a)))) r ∙ ap (λ n. filter p (numbers_from (w.mark + 1 + b) n)) s
    ]

-- The numbers found so far, and the clear bit that the search has reached.
pub record IsCounted {A : Type 0} (w : WindowHistory A) (words : List ℕ) (upto end offset : ℕ) (found : List ℕ) : Type 0 where
  pub limit : end ≡ min (upto - w.mark) 256
  pub few : length found ≤ 32
  pub clear : is_set words offset ≡ false
  pub so_far : found ++ take (32 - length found) (lacks w offset (end - offset)) ≡ first_missing w upto

pub length-bytes_from_bits : (test : ℕ → Bool) (first count : ℕ) → length (bytes_from_bits test first count) ≡ count
length-bytes_from_bits test first zero = refl
length-bytes_from_bits test first (suc count) = ap suc (length-bytes_from_bits test (first + 8) count)

module _ {A : Type 0} (w : WindowHistory A) (front top : ℕ) (words : List ℕ) (places : List (Option (Message A))) (i : IsWindow w front top words places) where
  -- The search begins after the front.
  pub counted_first : (upto end : ℕ) → end ≡ min (upto - w.mark) 256 → IsCounted w words upto end (front - w.mark) []
  counted_first upto end limit =
      let next : w.mark + 1 + (front - w.mark) ≡ suc (front_of w.held w.ring) = omega (arith, i.front_is, i.safe) in
      let count : end ≡ min 256 (upto - w.mark) = omega arith in
      let zero_on : w.mark + 1 + 0 ≡ w.mark + 1 = omega arith in
      let whole : end - 0 ≡ end = omega arith in
      let all : lacks w 0 (end - 0) ≡ lacks w (front - w.mark) (end - (front - w.mark)) = lacks_to w 0
      (front - w.mark) end (omega arith) (λ j x y. (front_is w.held w.ring).below (w.mark + 1 + j) (omega arith)
      (omega (arith, i.front_is, i.safe))) in
      let p = λ (n : ℕ). not (holds w.held w.ring n) in
      record {
        limit = limit;
        few = omega arith;
        clear = i.bits (front - w.mark) ∙ ap (λ n. holds w.held w.ring n) next ∙ (front_is w.held w.ring).next;
        so_far = ap (λ xs. take 32 xs) (sym all ∙ ap (λ n. filter p (numbers_from n (end - 0))) zero_on
            ∙ ap (λ n. filter p (numbers_from (w.mark + 1) n)) (whole ∙ count));
      }

  -- The search goes on to the next clear bit.
  pub counted_more : (upto end offset k : ℕ) (found : List ℕ) → IsCounted w words upto end offset found → offset < end → length found < 32
      → IsFirstClear words (offset + 1) k → IsCounted w words upto end k (found ++ (w.mark + 1 + offset) ∷ [])
  counted_more upto end offset k found c inside room f =
      let x = w.mark + 1 + offset in
      let p = λ (n : ℕ). not (holds w.held w.ring n) in
      let lacking : p x ≡ true = ap not (sym (i.bits offset) ∙ c.clear) in
      let n : end - offset ≡ suc (end - (offset + 1)) = omega arith in
      let m : suc x ≡ w.mark + 1 + (offset + 1) = omega arith in
      let here : lacks w offset (end - offset) ≡ x ∷ lacks w (offset + 1) (end - (offset + 1)) =
      ap (λ q. lacks w offset q) n ∙ cond-true (p x) (x ∷ filter p (numbers_from (suc x) (end - (offset + 1))))
      (filter p (numbers_from (suc x) (end - (offset + 1)))) lacking
      ∙ ap (λ q. x ∷ filter p (numbers_from q (end - (offset + 1)))) m in
      let rest : lacks w (offset + 1) (end - (offset + 1)) ≡ lacks w k (end - k) = lacks_to w
      (offset + 1) k end f.later (λ j a b. sym (i.bits j) ∙ f.set j a b) in
      let left : 32 - length found ≡ suc (32 - (length found + 1)) = omega arith in
      let pushed : length (found ++ x ∷ []) ≡ length found + 1 = length_push found x in
      record {
        limit = c.limit;
        few = omega arith;
        clear = f.clear;
        so_far =
            ap (λ q. found ++ x ∷ [] ++ take (32 - q) (lacks w k (end - k))) pushed
            ∙ append_assoc found (x ∷ []) (take (32 - (length found + 1)) (lacks w k (end - k)))
            ∙ sym (ap (λ xs. found ++ take (32 - length found) xs) (here ∙ ap (λ xs. x ∷ xs) rest) ∙ ap (λ q. found ++ take q (x ∷ lacks w k (end - k))) left)
            ∙ c.so_far;
      }

  -- The bits of a commit entry.
  pub bits_given : (bytes : List ℕ) → length bytes ≡ 32 → ((k : ℕ) → k < 32 → slice_index bytes k ≡ word_from_test (is_set words) (front - w.mark + 8 * k) 8)
      → bytes ≡ held_bits w.held w.ring
  bits_given bytes count given =
      let first = front_of w.held w.ring + 1 in
      ext_get_or 0 bytes (bytes_from_bits (holds w.held w.ring) first 32) (count ∙ sym (length-bytes_from_bits (holds w.held w.ring) first 32)) (λ k l.
      given k (omega arith)
      ∙ word_from_test-same (is_set words) (holds w.held w.ring) (front - w.mark + 8 * k) (first + 8 * k) 8
      (λ j m. (let e : w.mark + 1 + (front - w.mark + 8 * k + j) ≡ first + 8 * k + j = omega (
        arith,
        i.front_is,
        i.safe,
      ) in i.bits (front - w.mark + 8 * k + j) ∙ ap (λ n. holds w.held w.ring n) e))
      ∙ sym (byte_at (holds w.held w.ring) first 32 k (omega arith)))

pub counted_full : {A : Type 0} (w : WindowHistory A) (words : List ℕ) (upto end offset : ℕ) (found : List ℕ) → IsCounted w words upto end offset found
    → 32 ≤ length found → found ≡ first_missing w upto
counted_full w words upto end offset found c l =
    let n : 32 - length found ≡ 0 = omega arith in
    sym (append-nil found) ∙ sym (ap (λ q. found ++ take q (lacks w offset (end - offset))) n) ∙ c.so_far
