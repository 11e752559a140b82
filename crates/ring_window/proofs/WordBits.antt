-- Bits that span two words, and words as bits.
use Rattle.std.proofs.Common.{◌≡◌, ◌≢◌, ℕ, zero, suc, ◌+◌, ◌-◌, ◌*◌, ◌/◌, ◌%◌, ◌^◌, ◌<◌, ◌≤◌, Bool, true, false, List}
use Rattle.std.proofs.Common.{[], ◌∷◌, length, refl, ap, ◌∙◌, sym, inl, inr, arith, get_or-set_same, get_or-set_other}
use Rattle.std.specs.Prelude.{◌==◌, slice_index, slice_set, bit_and, bit_or}
use Rattle.std.specs.Int.{bit_at, w64, trailing_ones}
use Rattle.std.proofs.lemmas.Bool.{cases_Bool, cases_lt, cases_eq, eqb-true, eq-eqb}
use Rattle.std.proofs.lemmas.List.{get_or_past}
use Rattle.std.proofs.lemmas.Nat.{shr-shr, and_mask, pow_pos}
use Rattle.std.proofs.lemmas.Nat.Bits.{bit_at_or, bit_at-lt, bit_at_above, bit_at_cat_low, bit_at_cat_high, bit_at_ones}
use Rattle.std.proofs.lemmas.Nat.Bits.{bit_at-zero, same_from_bits_below, bit_at_set_same, bit_at_set_other}
use Rattle.std.proofs.lemmas.Nat.Bits.{bit_at-trailing_ones}
use Rattle.ring_base.specs.Numbers.{has_bit, word_from_test}
use Rattle.ring_window.specs.Bits.{is_set, IsFirstClear}
use Rattle.ring_window.proofs.Bits.{word_bit}

-- ---- bits of one number

-- `n % 2 ^ k` has the low k bits
bit_at_mod : (n k j : ℕ) → j < k → bit_at (n % 2 ^ k) j ≡ bit_at n j
bit_at_mod n k j l =
    let split : n / 2 ^ k * 2 ^ k + n % 2 ^ k ≡ n = omega arith in
    sym (bit_at_cat_low (n / 2 ^ k) k (n % 2 ^ k) j l) ∙ ap (λ x. bit_at x j) split

-- `n >> k`
bit_at_shr : (n k j : ℕ) → bit_at (n / 2 ^ k) j ≡ bit_at n (k + j)
bit_at_shr n k j = ap (λ x. x % 2) (shr-shr n k j)

-- `n << k` at 64 bits
bit_at_shl_low : (n k j : ℕ) → j < k → bit_at (n * 2 ^ k) j ≡ 0
bit_at_shl_low n k j l = (let e : n * 2 ^ k + 0 ≡ n * 2 ^ k = omega arith in sym (ap (λ x. bit_at x j) e) ∙ bit_at_cat_low n k 0 j l ∙ bit_at-zero j)

bit_at_shl_high : (n k j : ℕ) → k ≤ j → bit_at (n * 2 ^ k) j ≡ bit_at n (j - k)
bit_at_shl_high n k j l = (let e : n * 2 ^ k + 0 ≡ n * 2 ^ k = omega arith in sym (ap (λ x. bit_at x j) e) ∙ bit_at_cat_high n k 0 j (pow_pos k) l)

-- ---- `low >> shift | high << (64 - shift)`

pub across_low : (low high shift j : ℕ) → shift + j < 64 → 0 < shift
    → bit_at (bit_or (low / 2 ^ shift) (high * 2 ^ (64 - shift) % 2 ^ 64)) j ≡ bit_at low (shift + j)
across_low low high shift j l some =
    let a = bit_at_shr low shift j in
    let b : bit_at (high * 2 ^ (64 - shift) % 2 ^ 64) j ≡ 0 = bit_at_mod (high * 2 ^ (64 - shift)) 64 j (omega arith)
    ∙ bit_at_shl_low high (64 - shift) j (omega arith) in
    let c = bit_at_or (low / 2 ^ shift) (high * 2 ^ (64 - shift) % 2 ^ 64) j in
    omega arith

pub across_high : (low high shift j : ℕ) → low < 2 ^ 64 → 64 ≤ shift + j → shift < 64 → j < 64
    → bit_at (bit_or (low / 2 ^ shift) (high * 2 ^ (64 - shift) % 2 ^ 64)) j ≡ bit_at high (shift + j - 64)
across_high low high shift j small l under within =
    let a : bit_at (low / 2 ^ shift) j ≡ 0 = bit_at_shr low shift j ∙ bit_at_above low 64 (shift + j) small l in
    let e : j - (64 - shift) ≡ shift + j - 64 = omega arith in
    let b : bit_at (high * 2 ^ (64 - shift) % 2 ^ 64) j ≡ bit_at high (shift + j - 64) = bit_at_mod (high * 2 ^ (64 - shift)) 64 j within
    ∙ bit_at_shl_high high (64 - shift) j (omega arith) ∙ ap (λ i. bit_at high i) e in
    let c = bit_at_or (low / 2 ^ shift) (high * 2 ^ (64 - shift) % 2 ^ 64) j in
    omega arith

-- ---- bits of words

-- A bit, from its word and its position there.
pub set_at : (words : List ℕ) (first shift j : ℕ) → first % 64 ≡ shift → shift + j < 64
    → is_set words (first + j) ≡ has_bit (slice_index words (first / 64)) (shift + j)
set_at words first shift j e l =
    let q : (first + j) / 64 ≡ first / 64 = omega arith in
    let r : (first + j) % 64 ≡ shift + j = omega arith in
    ap (λ i. has_bit (slice_index words i) ((first + j) % 64)) q ∙ ap (λ i. has_bit (slice_index words (first / 64)) i) r

pub set_past : (words : List ℕ) (first shift j : ℕ) → first % 64 ≡ shift → 64 ≤ shift + j → j < 64
    → is_set words (first + j) ≡ has_bit (slice_index words (first / 64 + 1)) (shift + j - 64)
set_past words first shift j e l within =
    let q : (first + j) / 64 ≡ first / 64 + 1 = omega arith in
    let r : (first + j) % 64 ≡ shift + j - 64 = omega arith in
    ap (λ i. has_bit (slice_index words i) ((first + j) % 64)) q ∙ ap (λ i. has_bit (slice_index words (first / 64 + 1)) i) r

-- A word that spans two words, bit by bit.
pub word_across : (words : List ℕ) (first low high shift j : ℕ) → low ≡ slice_index words (first / 64) → high ≡ slice_index words (first / 64 + 1)
    → first % 64 ≡ shift → low < 2 ^ 64 → 0 < shift → j < 64
    → has_bit (bit_or (low / 2 ^ shift) (high * 2 ^ (64 - shift) % 2 ^ 64)) j ≡ is_set words (first + j)
word_across words first low high shift j a b e small some within =
    elim (cases_lt (shift + j) 64) [
      | inl l ↦ ap (λ x. x == 1) (across_low low high shift j l some) ∙ ap (λ w. has_bit w (shift + j)) a ∙ sym (set_at words first shift j e l)
      | inr l ↦ ap (λ x. x == 1) (across_high low high shift j small l (omega arith) within) ∙ ap (λ w. has_bit w (shift + j - 64)) b
          ∙ sym (set_past words first shift j e l within)
    ]

-- After the last of four words each bit is clear.
pub clear_past : (words : List ℕ) (j : ℕ) → length words ≡ 4 → 256 ≤ j → is_set words j ≡ false
clear_past words j n l = (let e : slice_index words (j / 64) ≡ 0 = get_or_past words (j / 64) 0 (omega arith) in rw e
    (let z = bit_at-zero (j % 64) in ap (λ x. x == 1) z))

-- ---- a word from its tests

has_same : (a b j : ℕ) → has_bit a j ≡ has_bit b j → bit_at a j ≡ bit_at b j
has_same a b j h =
    let x = bit_at-lt a j in
    let y = bit_at-lt b j in
    elim (cases_Bool (has_bit a j)) [
      | inl e ↦ (let p = eqb-true (bit_at a j) 1 e in let q = eqb-true (bit_at b j) 1 (sym h ∙ e) in p ∙ sym q)
      | inr e ↦ (let p : bit_at a j ≢ 1 = λ s. false_true (sym e ∙ eq-eqb (bit_at a j) 1 s) in let q : bit_at b j ≢
          1 = λ s. false_true (sym e ∙ h ∙ eq-eqb (bit_at b j) 1 s) in omega arith)
    ]
  where
    false_true : false ≡ true → ⊥
    false_true h = (cc)

word_of_below : (test : ℕ → Bool) (first count : ℕ) → word_from_test test first count < 2 ^ count
word_of_below test first zero = omega arith
word_of_below test first (suc count) =
    let h = word_of_below test (suc first) count in
    let p : 2 ^ suc count ≡ 2 * 2 ^ count = omega arith in
    elim (cases_Bool (test first)) [ inl e ↦ rw (e, p) (omega arith) | inr e ↦ rw (e, p) (omega arith) ]

-- The low 8 bits of a word whose bits are tests.
pub byte_by_tests : (word first : ℕ) (test : ℕ → Bool) → ((j : ℕ) → j < 64 → has_bit word j ≡ test (first + j)) → bit_and word 255 ≡ word_from_test test first 8
byte_by_tests word first test bits =
    let m : bit_and word 255 ≡ word % 2 ^ 8 = and_mask word 8 in
    m ∙ same_from_bits_below 8 (word % 2 ^ 8) (word_from_test test first 8) (omega arith) (word_of_below test first 8)
    (λ i l. bit_at_mod word 8 i l ∙ has_same word (word_from_test test first 8) i (bits i (omega arith) ∙ sym (word_bit test first 8 i l)))

-- Two words whose tests agree.
pub word_from_test-same : (f g : ℕ → Bool) (a b count : ℕ) → ((i : ℕ) → i < count → f (a + i) ≡ g (b + i)) → word_from_test f a count ≡ word_from_test g b count
word_from_test-same f g a b zero h = refl
word_from_test-same f g a b (suc count) h =
    let p : a + 0 ≡ a = omega arith in
    let q : b + 0 ≡ b = omega arith in
    let here : f a ≡ g b = sym (ap f p) ∙ h 0 (omega arith) ∙ ap g q in
    let rest = word_from_test-same f g (suc a) (suc b) count
    (λ i l. (let s : suc a + i ≡ a + suc i = omega arith in let t : b + suc i ≡ suc b + i = omega arith in ap f s
    ∙ h (suc i) (omega arith) ∙ ap g t)) in
    rw (here, rest) refl

-- ---- one more bit

pub set_this : (words : List ℕ) (offset : ℕ) → length words ≡ 4 → offset < 256
    → is_set (slice_set words (offset / 64) (bit_or (slice_index words (offset / 64)) (1 * 2 ^ (offset % 64) % 2 ^ 64))) offset ≡ true
set_this words offset n l =
    let new = bit_or (slice_index words (offset / 64)) (1 * 2 ^ (offset % 64) % 2 ^ 64) in
    let e = get_or-set_same words (offset / 64) new 0 (omega arith) in
    let b : bit_at new (offset % 64) ≡ 1 = bit_at_set_same w64 (slice_index words (offset / 64)) (offset % 64) (omega arith) in
    ap (λ w. has_bit w (offset % 64)) e ∙ ap (λ x. x == 1) b

pub set_others : (words : List ℕ) (offset j : ℕ) → length words ≡ 4 → offset < 256 → j ≢ offset
    → is_set (slice_set words (offset / 64) (bit_or (slice_index words (offset / 64)) (1 * 2 ^ (offset % 64) % 2 ^ 64))) j ≡ is_set words j
set_others words offset j n l other =
    let old = slice_index words (offset / 64) in
    let new = bit_or old (1 * 2 ^ (offset % 64) % 2 ^ 64) in
    elim (cases_eq (j / 64) (offset / 64)) [
      | inl e ↦
          let s = get_or-set_same words (offset / 64) new 0 (omega arith) in
          let apart : j % 64 ≢ offset % 64 = λ h. other (omega arith) in
          let b : bit_at new (j % 64) ≡ bit_at old (j % 64) = bit_at_set_other w64 old (offset % 64) (omega arith) (j % 64) apart in
          ap (λ i. has_bit (slice_index (slice_set words (offset / 64) new) i) (j % 64)) e ∙ ap (λ w. has_bit w (j % 64)) s ∙ ap (λ x. x == 1) b
          ∙ sym (ap (λ i. has_bit (slice_index words i) (j % 64)) e)
      | inr e ↦ ap (λ w. has_bit w (j % 64)) (get_or-set_other words (offset / 64) (j / 64) new 0 e)
    ]

-- ---- where the set bits end

pub first_here : (words : List ℕ) (from offset word : ℕ) → from ≤ offset → ((j : ℕ) → from ≤ j → j < offset → is_set words j ≡ true)
    → ((j : ℕ) → j < 64 → has_bit word j ≡ is_set words (offset + j)) → word + 1 < 2 ^ 64 → IsFirstClear words from (offset + trailing_ones w64 word)
first_here words from offset word later passed bits below =
    let t = bit_at-trailing_ones w64 word below in
    record {
      later = omega arith;
      set = λ j a b. elim (cases_lt j offset) [
        | inl l ↦ passed j a l
        | inr l ↦ (let e : offset + (j - offset) ≡ j = omega arith in sym (ap (is_set words) e)
            ∙ sym (bits (j - offset) (omega (arith, t.0))) ∙ ap (λ x. x == 1) (t.2 (j - offset) (omega arith)))
      ];
      clear = sym (bits (trailing_ones w64 word) t.0) ∙ ap (λ x. x == 1) t.1;
    }

pub whole_here : (words : List ℕ) (from offset word : ℕ) → ((j : ℕ) → from ≤ j → j < offset → is_set words j ≡ true)
    → ((j : ℕ) → j < 64 → has_bit word j ≡ is_set words (offset + j)) → word ≡ 2 ^ 64 - 1 → (j : ℕ) → from ≤ j → j < offset + 64 → is_set words j ≡ true
whole_here words from offset word passed bits full j a b =
    elim (cases_lt j offset) [
      | inl l ↦ passed j a l
      | inr l ↦
          let e : offset + (j - offset) ≡ j = omega arith in
          let one : bit_at word (j - offset) ≡ 1 = ap (λ w. bit_at w (j - offset)) full ∙ bit_at_ones 64 (j - offset) (omega arith) in
          sym (ap (is_set words) e) ∙ sym (bits (j - offset) (omega arith)) ∙ ap (λ x. x == 1) one
    ]

-- ---- four words, from one of them on

one_word : (ws words : List ℕ) (first base i j : ℕ) → base ≡ first + 64 * i
    → ((k : ℕ) → k < 64 → has_bit (slice_index ws i) k ≡ is_set words (base + k)) → j / 64 ≡ i → is_set ws j ≡ is_set words (first + j)
one_word ws words first base i j b bits e =
    let s : base + j % 64 ≡ first + j = omega arith in
    ap (λ q. has_bit (slice_index ws q) (j % 64)) e ∙ bits (j % 64) (omega arith) ∙ ap (is_set words) s

pub four_words : (words : List ℕ) (first a b c d : ℕ) → length words ≡ 4
    → ((k : ℕ) → k < 64 → has_bit a k ≡ is_set words (first + k)) → ((k : ℕ) → k < 64 → has_bit b k ≡ is_set words (first + 64 + k))
    → ((k : ℕ) → k < 64 → has_bit c k ≡ is_set words (first + 128 + k)) → ((k : ℕ) → k < 64 → has_bit d k ≡ is_set words (first + 192 + k))
    → (j : ℕ) → is_set (a ∷ b ∷ c ∷ d ∷ []) j ≡ is_set words (first + j)
four_words words first a b c d n p q r s j =
    let ws = a ∷ b ∷ c ∷ d ∷ [] in
    elim (cases_lt j 64) [
      | inl l ↦ one_word ws words first first 0 j (omega arith) p (omega arith)
      | inr l ↦ elim (cases_lt j 128) [
        | inl m ↦ one_word ws words first (first + 64) 1 j (omega arith) q (omega arith)
        | inr m ↦ elim (cases_lt j 192) [
          | inl o ↦ one_word ws words first (first + 128) 2 j (omega arith) r (omega arith)
          | inr o ↦ elim (cases_lt j 256) [
            | inl t ↦ one_word ws words first (first + 192) 3 j (omega arith) s (omega arith)
            | inr t ↦ clear_past ws j refl t ∙ sym (clear_past words (first + j) n (omega arith))
          ]
        ]
      ]
    ]
