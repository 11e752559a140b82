-- The first piece of a text, and the first line, by the place of the separator.
use Rattle.std.proofs.Common.{◌≡◌, ℕ, suc, ◌+◌, ◌-◌, ◌<◌, ◌≤◌, true, false, List, [], ◌∷◌, length, get_or, take, drop, Some, None, ltb, arith, refl, inl, inr}
use Rattle.std.specs.Prelude.{position, ◌==◌}
use Rattle.std.specs.List.{position_or_len}
use Rattle.std.proofs.lemmas.Bool.{cases_Bool, ltb-true, ltb-false, eqb-true}
use Rattle.std.proofs.lemmas.List.Sums.{position_or_len_is}
use Rattle.memchr.specs.Find.{IsFirstByte, is_byte}
use Rattle.ring_base.proofs.ListFronts.{rest_whole}
use Rattle.ring_script.specs.Words.{pieces, lines_of}

-- The index of the first such byte, or the length.
abbrev place : ℕ → List ℕ → ℕ
place separator text = position_or_len (λ b. b == separator) text

-- A piece that ends at the separator.
piece_ends : (separator : ℕ) (text : List ℕ) → place separator text < length text → pieces separator text ≡ take
    (place separator text) text ∷ pieces separator (drop (place separator text + 1) text)
unfolding pieces
piece_ends separator [] lt = absurd (omega arith)
piece_ends separator (b ∷ text) lt =
    elim (cases_Bool (b == separator)) [
      | inl here ↦ rw here refl
      | inr later ↦
          let first : 1 + place separator text ≡ suc (place separator text) = omega arith in
          let second : 1 + place separator text + 1 ≡ suc (place separator text + 1) = omega arith in
          let others = piece_ends separator text (let le = rw later at lt in omega arith) in
          rw (later, second, first, others) refl
    ]

-- The last piece.
piece_stays : (separator : ℕ) (text : List ℕ) → length text ≤ place separator text → pieces separator text ≡ text ∷ []
unfolding pieces
piece_stays separator [] le = refl
piece_stays separator (b ∷ text) le =
    elim (cases_Bool (b == separator)) [
      | inl here ↦ absurd (let le' = rw here at le in omega arith)
      | inr later ↦
          let others = piece_stays separator text (let le' = rw later at le in omega arith) in
          rw (later, others) refl
    ]

-- The same by what `position` gives.
pub pieces-ended : (separator n : ℕ) (text : List ℕ) → Some n ≡ position (λ b. b == separator) text
    → pieces separator text ≡ take n text ∷ pieces separator (take (length text - (n + 1)) (drop (n + 1) text))
pieces-ended separator n text e =
    elim (cases_Bool (ltb (place separator text) (length text))) [
      | inl inside ↦
          let found = rw inside at e in
          let same : place separator text ≡ n = cc in
          let first = piece_ends separator text (ltb-true _ _ inside) in
          rw (rest_whole (n + 1) text, ← same) first
      | inr outside ↦ let none = rw outside at e in absurd (cc)
    ]

pub pieces-last : (separator : ℕ) (text : List ℕ) → None ≡ position (λ b. b == separator) text → pieces separator text ≡ text ∷ []
pieces-last separator text e =
    elim (cases_Bool (ltb (place separator text) (length text))) [
      | inl inside ↦ let found = rw inside at e in absurd (cc)
      | inr outside ↦ piece_stays separator text (ltb-false _ _ outside)
    ]

-- A line that ends at a line feed.
line_ends : (text : List ℕ) → place 10 text < length text → lines_of text ≡ take (place 10 text) text ∷ lines_of (drop (place 10 text + 1) text)
unfolding lines_of
line_ends [] lt = absurd (omega arith)
line_ends (b ∷ text) lt =
    elim (cases_Bool (b == 10)) [
      | inl here ↦ rw here refl
      | inr later ↦
          let first : 1 + place 10 text ≡ suc (place 10 text) = omega arith in
          let second : 1 + place 10 text + 1 ≡ suc (place 10 text + 1) = omega arith in
          let others = line_ends text (let le = rw later at lt in omega arith) in
          rw (later, second, first, others) refl
    ]

-- The last line, of at least one byte.
line_stays : (b : ℕ) (text : List ℕ) → length (b ∷ text) ≤ place 10 (b ∷ text) → lines_of (b ∷ text) ≡ (b ∷ text) ∷ []
unfolding lines_of
line_stays b [] le =
    elim (cases_Bool (b == 10)) [
      | inl here ↦ absurd (let le' = rw here at le in omega arith)
      | inr later ↦ rw later refl
    ]
line_stays b (c ∷ text) le =
    elim (cases_Bool (b == 10)) [
      | inl here ↦ absurd (let le' = rw here at le in omega arith)
      | inr later ↦
          let others = line_stays c text (let le' = rw later at le in omega arith) in
          rw (later, others) refl
    ]

-- The first such byte is where a search finds it.
found_place : (b : ℕ) (text : List ℕ) (n : ℕ) → IsFirstByte (is_byte b) text (Some n) → place b text ≡ n
found_place b text n found =
    position_or_len_is (λ x. x == b) text n 0 (omega (arith, found.0.high)) (λ k lt. other k lt) (λ lt. found.1)
  where
    other : (k : ℕ) → k < n → (get_or text k 0 == b) ≡ false
    other k lt =
        elim (cases_Bool (get_or text k 0 == b)) [
          | inl here ↦ absurd (found.0.before k (omega arith) lt here)
          | inr later ↦ later
        ]

-- And nowhere if it finds none.
no_place : (b : ℕ) (text : List ℕ) → IsFirstByte (is_byte b) text None → place b text ≡ length text
no_place b text none =
    position_or_len_is (λ x. x == b) text (length text) 0 (omega arith) (λ k lt. other k lt) (λ lt. absurd (omega (arith, lt)))
  where
    other : (k : ℕ) → k < length text → (get_or text k 0 == b) ≡ false
    other k lt =
        elim (cases_Bool (get_or text k 0 == b)) [
          | inl here ↦ absurd (none k (omega arith) lt here)
          | inr later ↦ later
        ]

pub lines-ended : (n : ℕ) (text : List ℕ) → IsFirstByte (is_byte 10) text (Some n) → lines_of text ≡ take n text
    ∷ lines_of (take (length text - (n + 1)) (drop (n + 1) text))
lines-ended n text found =
    let same = found_place 10 text n found in
    let first = line_ends text (omega (arith, same, found.0.high)) in
    rw (rest_whole (n + 1) text, ← same) first

pub lines-last : (text : List ℕ) → IsFirstByte (is_byte 10) text None → 0 < length text → lines_of text ≡ text ∷ []
lines-last [] none some = absurd (omega arith)
lines-last (b ∷ text) none some = line_stays b text (omega (arith, no_place 10 (b ∷ text) none))

pub lines-none : (text : List ℕ) → (length text == 0) ≡ true → lines_of text ≡ []
unfolding lines_of
lines-none [] none = refl
lines-none (b ∷ text) none = let zero = eqb-true (length (b ∷ text)) 0 none in absurd (omega arith)
