-- The words of a line, and the lines of a text.
-- Formats: Scripts
use Rattle.std.specs.Prelude.{◌≡◌, ℕ, ◌+◌, Bool, true, ◌==◌, if◌then◌else◌, List, [], ◌∷◌, length, Option, Some, None, Result, Ok, Err}
use Rattle.std.specs.Borrow.{Bor}
use Rattle.std.specs.Char.{is_ascii}
use Rattle.std.specs.List.{list_all}
use Rattle.ring_base.specs.declared.fault.Fault.{Fault}
use Rattle.ring_base.specs.declared.fault.Fault.TheVariants.{BadScript}

-- Prepends a byte to the first of these pieces.
abbrev pub with_first : ℕ → List (List ℕ) → List (List ℕ)
with_first b [] = (b ∷ []) ∷ []
with_first b (piece ∷ others) = (b ∷ piece) ∷ others

-- The pieces of a text between its separators: one more than the separators, and some may be empty.
unfoldable pub pieces : ℕ → List ℕ → List (List ℕ)
pieces separator [] = [] ∷ []
pieces separator (b ∷ text) = if b == separator then [] ∷ pieces separator text else with_first b (pieces separator text)

-- The words of a line, separated by single spaces.
abbrev pub words_of : List ℕ → List (List ℕ)
words_of line = pieces 32 line

-- The parsed value, if no word is left.
abbrev pub whole : {X : Type 0} → X × List (List ℕ) → Option X
whole read = if length read.1 == 0 then Some read.0 else None

-- The lines of a text: a line feed ends a line, and after the last there is one more exactly if bytes follow.
unfoldable pub lines_of : List ℕ → List (List ℕ)
lines_of [] = []
lines_of (b ∷ text) = if b == 10 then [] ∷ lines_of text else with_first b (lines_of text)

-- The remaining pieces, none after the last.
abbrev pub pieces_left : ℕ → Option (Bor (List ℕ)) → List (List ℕ)
pieces_left separator None = []
pieces_left separator (Some rest) = pieces separator rest.now

-- `BadScript` if a word is left.
abbrev pub ended : List (List ℕ) → Result (Unit {0}) Fault
ended [] = Ok tt
ended (word ∷ words) = Err BadScript

-- Whether a line is skipped: it is empty, or begins with `#`.
abbrev pub is_skipped : List ℕ → Bool
is_skipped [] = true
is_skipped (b ∷ line) = b == 35

-- Whether each byte is below 128.
abbrev pub are_ascii : List ℕ → Bool
are_ascii line = list_all is_ascii line

-- The remaining lines of a text, and the number of lines before them.
pub record LinesLeft : Type 0 where
  pub before : ℕ
  pub lines : List (List ℕ)

-- Taking a line yields the first remaining one with its number and leaves the others; if none remains, nothing changes.
abbrev pub TakesLine : LinesLeft → Option (ℕ × Bor (List ℕ)) → LinesLeft → Type 0
TakesLine old None new = (old.lines ≡ []) × (new ≡ old)
TakesLine old (Some taken) new = (old.lines ≡ taken.1.now ∷ new.lines) × (taken.0 ≡ old.before + 1) × (new.before ≡ old.before + 1)
