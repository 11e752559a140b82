-- Whether each byte of a line is below 128, as the library computes it, and of all lines of a text.
use Rattle.std.proofs.Common.{◌≡◌, ℕ, zero, suc, ◌≤◌, Bool, true, false, List, [], ◌∷◌, get_or, arith, refl, sym, inl, inr}
use Rattle.std.specs.Prelude.{IsAscii, ◌&&◌, ◌==◌}
use Rattle.std.specs.Bool.{MatchBool}
use Rattle.std.specs.Char.{is_ascii}
use Rattle.std.specs.List.{list_all}
use Rattle.std.specs.Str.{IsNotAscii}
use Rattle.std.proofs.lemmas.Bool.{cases_Bool, lt-ltb, le-ltb, eqb-true, and_parts}
use Rattle.ring_script.specs.Words.{with_first, lines_of, are_ascii}

all_below : (line : List ℕ) → IsAscii line → list_all is_ascii line ≡ true
all_below [] h = refl
all_below (b ∷ line) h = rw (lt-ltb b 128 (h 0)) (all_below line (λ i. h (suc i)))

one_above : (line : List ℕ) (i : ℕ) → 128 ≤ get_or line i 0 → list_all is_ascii line ≡ false
one_above [] i h = absurd (omega arith)
one_above (b ∷ line) zero h = rw (le-ltb b 128 h) refl
one_above (b ∷ line) (suc i) h =
    elim (cases_Bool (is_ascii b)) [
      | inl below ↦ rw below (one_above line i h)
      | inr above ↦ rw above refl
    ]

pub ascii_told : (told : Bool) (line : List ℕ) → MatchBool told (IsAscii line) (IsNotAscii line) → told ≡ list_all is_ascii line
ascii_told true line h = sym (all_below line h)
ascii_told false line h = sym (one_above line h.0 h.1)

-- ---- the lines of a text.

first_ascii : (b : ℕ) (lines : List (List ℕ)) → list_all are_ascii (with_first b lines) ≡ (is_ascii b && list_all are_ascii lines)
first_ascii b lines =
    elim (cases_Bool (is_ascii b)) [
      | inl below ↦ rw below (by_below lines below)
      | inr above ↦ rw above (by_above lines above)
    ]
  where
    by_below : (lines : List (List ℕ)) → is_ascii b ≡ true → list_all are_ascii (with_first b lines) ≡ list_all are_ascii lines
    by_below [] below = rw below refl
    by_below (line ∷ lines) below = rw below refl

    by_above : (lines : List (List ℕ)) → is_ascii b ≡ false → list_all are_ascii (with_first b lines) ≡ false
    by_above [] above = rw above refl
    by_above (line ∷ lines) above = rw above refl

-- They are ASCII if the text is.
pub lines_ascii : (text : List ℕ) → list_all are_ascii (lines_of text) ≡ list_all is_ascii text
unfolding lines_of
lines_ascii [] = refl
lines_ascii (b ∷ text) =
    elim (cases_Bool (b == 10)) [
      | inl here ↦ rw (here, lines_ascii text, eqb-true b 10 here) refl
      | inr later ↦ rw (later, first_ascii b (lines_of text), lines_ascii text) refl
    ]

-- The first of them, and the others.
pub line_ascii : (line : List ℕ) (lines all : List (List ℕ)) → all ≡ line ∷ lines → list_all are_ascii all ≡ true
    → (are_ascii line ≡ true) × (list_all are_ascii lines ≡ true)
line_ascii line lines all e h = and_parts (are_ascii line) (list_all are_ascii lines) (let told = rw e at h in told)
