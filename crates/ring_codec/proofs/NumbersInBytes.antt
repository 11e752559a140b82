-- Numbers encoded one after the other are those that are read there.
use Rattle.std.proofs.Common.{◌≡◌, ℕ, zero, suc, ◌+◌, ◌-◌, ◌*◌, ◌<◌, ◌≤◌, Bool, false, true, cond, ltb, List, ◌++◌}
use Rattle.std.proofs.Common.{length, take, drop, Some, None, refl, sym, ap, subst, ◌∙◌, arith, inl, inr}
use Rattle.std.specs.Prelude.{slice_index}
use Rattle.std.proofs.lemmas.Bool.{cases_lt, le-ltb, lt-ltb, ltb-true, ltb-false}
use Rattle.std.proofs.lemmas.List.{length-append, length-drop, length-take, drop-append-le, drop-drop, nil_from_length, take_all, take-append-drop}
use Rattle.byteorder.specs.Endian.{big_number}
use Rattle.byteorder.specs.Numbers.{big_from-append}
use Rattle.ring_base.specs.declared.fault.Fault.{Fault}
use Rattle.ring_codec.specs.Reading.{IsReadRefusal, number_at, raw_bytes_at, repeated_at}
use Rattle.ring_codec.specs.NumberFormats.{guard_some}
use Rattle.ring_codec.specs.EncodedNumbers.{encoded_numbers}
use Rattle.ring_codec.proofs.Loops.{IsReadRefusal-on}

pub length-words : (n : ℕ) (bytes : List ℕ) → length (encoded_numbers n bytes) ≡ n
unfolding encoded_numbers
length-words zero bytes = refl
length-words (suc n) bytes = ap suc (length-words n (drop 8 bytes))

pub words_read : (n : ℕ) (text rest : List ℕ) → length text ≡ 8 * n → repeated_at n (number_at 8) (text ++ rest) ≡ Some (encoded_numbers n text, rest)
unfolding encoded_numbers repeated_at
words_read zero text rest len = rw (nil_from_length text len) refl
words_read (suc n) text rest len =
    let long : ltb (length (text ++ rest)) 8 ≡ false = le-ltb _ _ (omega (arith, length-append text rest)) in
    let front : big_number 8 (text ++ rest) ≡ big_number 8 text = big_from-append 8 text rest (omega arith) in
    let behind : drop 8 (text ++ rest) ≡ drop 8 text ++ rest = drop-append-le 8 text rest (omega arith) in
    let others = words_read n (drop 8 text) rest (omega (arith, length-drop 8 text)) in
    rw (long, front, behind, others) refl

pub words_short : (n : ℕ) (bytes : List ℕ) → length bytes < 8 * n → repeated_at n (number_at 8) bytes ≡ None
unfolding repeated_at
words_short zero bytes short = absurd (omega arith)
words_short (suc n) bytes short =
    elim (cases_lt (length bytes) 8) [
      | inl lt ↦ rw (lt-ltb _ _ lt) refl
      | inr le ↦ rw (le-ltb _ _ le, words_short n (drop 8 bytes) (omega (arith, length-drop 8 bytes))) refl
    ]

pub words_taken : (n : ℕ) (bytes : List ℕ) → 8 * n ≤ length bytes → repeated_at n (number_at 8) bytes ≡ Some (encoded_numbers n (take (8 * n) bytes), drop (8 * n) bytes)
words_taken n bytes le =
    let parts = take-append-drop (8 * n) bytes in
    ap (repeated_at n (number_at 8)) (sym parts) ∙ words_read n (take (8 * n) bytes) (drop (8 * n) bytes) (omega (arith, length-take (8 * n) bytes))

pub word_at : (n i : ℕ) (bytes : List ℕ) → i < n → slice_index (encoded_numbers n bytes) i ≡ big_number 8 (drop (8 * i) bytes)
unfolding encoded_numbers
word_at zero i bytes lt = absurd (omega arith)
word_at (suc n) zero bytes lt = refl
word_at (suc n) (suc i) bytes lt =
    let there : drop (8 * i) (drop 8 bytes) ≡ drop (8 * suc i) bytes = drop-drop (8 * i) 8 bytes ∙ ap (λ (k : ℕ). drop k bytes) (omega arith) in
    word_at n i (drop 8 bytes) (omega arith) ∙ ap (big_number 8) there

-- the number of encoded numbers
pub count_words : (n : ℕ) (bytes words : List ℕ) → encoded_numbers n bytes ≡ words → n ≡ length words
count_words n bytes words are = sym (length-words n bytes) ∙ ap length are

-- there are eight bytes at each number's place
pub word_inside : (n i : ℕ) (bytes words : List ℕ) → encoded_numbers n bytes ≡ words → length bytes ≡ 8 * n → i < length words → 8 * i + 8 ≤ length bytes
word_inside n i bytes words are whole lt = omega (arith, count_words n bytes words are)

-- the number read at a number's place is that number
pub word_of : (n i : ℕ) (bytes words : List ℕ) → encoded_numbers n bytes ≡ words → length bytes ≡ 8 * n → i < length words
    → big_number 8 (take (length bytes - 8 * i) (drop (8 * i) bytes)) ≡ slice_index words i
word_of n i bytes words are whole lt =
    let all : take (length bytes - 8 * i) (drop (8 * i) bytes) ≡ drop (8 * i) bytes = take_all (length bytes - 8 * i)
    (drop (8 * i) bytes) (omega (arith, length-drop (8 * i) bytes)) in
    ap (big_number 8) all ∙ sym (word_at n i bytes (omega (arith, count_words n bytes words are))) ∙ ap (λ (ws : List ℕ). slice_index ws i) are

-- the numbers are in the bytes taken for them
pub words_got : (n : ℕ) (bytes text rest : List ℕ) → raw_bytes_at (8 * n) bytes ≡ Some (text, rest) → repeated_at n (number_at 8) bytes ≡ Some (encoded_numbers n text, rest)
words_got n bytes text rest got =
    let g = guard_some (ltb (length bytes) (8 * n)) (take (8 * n) bytes, drop (8 * n) bytes) (text, rest) got in
    let P : List ℕ × List ℕ → Type 0 = λ x. repeated_at n (number_at 8) bytes ≡ Some (encoded_numbers n x.0, x.1) in
    subst P g.1 (words_taken n bytes (ltb-false _ _ g.0))

none_where : (b : Bool) (x : List ℕ × List ℕ) → cond b None (Some x) ≡ None → b ≡ true
none_where true x e = refl
none_where false x e = absurd cc

-- if fewer bytes are left, fewer numbers are
pub words_refused : (e : Fault) (n : ℕ) (bytes : List ℕ) → IsReadRefusal e (raw_bytes_at (8 * n) bytes) → IsReadRefusal e (repeated_at n (number_at 8) bytes)
words_refused e n bytes refused =
    IsReadRefusal-on e (raw_bytes_at (8 * n) bytes) (repeated_at n (number_at 8) bytes) refused
    (λ none. words_short n bytes (ltb-true _ _ (none_where (ltb (length bytes) (8 * n)) (take (8 * n) bytes, drop (8 * n) bytes) none)))
