-- The results over many seeds, and their text.
-- Formats: The command line
use Rattle.std.specs.Prelude.{◌≡◌, ℕ, ◌+◌, ◌-◌, ◌^◌, ◌<◌, ◌≤◌, min, Bool, true, false, Option, Some, None, List, ◌++◌, codes}
use Rattle.std.specs.Fmt.{decimal}
use Rattle.ring_failure.specs.Texts.{line_of}
use Rattle.ring_console.specs.declared.Told.{Told}
use Rattle.ring_console.specs.declared.Told.TheVariants.{Answer, Refused}

-- The number of seeds from the first to the last, both included, up to 2^64 - 1: of all 2^64 the last is left out.
abbrev pub seeds_in : ℕ → ℕ → ℕ
seeds_in first last = min (last + 1 - first) (2 ^ 64 - 1)

-- The seed, if its run is not legal.
abbrev pub illegal_of : Bool → ℕ → Option ℕ
illegal_of true seed = None
illegal_of false seed = Some seed

-- Whether a node's report is an answer, with any outcome.
abbrev pub is_answer : {A : Type 0} → Told A → Bool
is_answer (Answer node call answer) = true
is_answer (Refused node call number) = false

-- The result for the seeds from one up to, but not including, another: each run is legal, or this is the first seed
-- whose run isn't.
abbrev pub AreTried : (Bool → Type 0) → ℕ → ℕ → Option ℕ → Type 0
AreTried IsTried from upto None = (seed : ℕ) → from ≤ seed → seed < upto → IsTried true
AreTried IsTried from upto (Some first) = (from ≤ first) × (first < upto) × IsTried false × ((seed : ℕ) → from ≤ seed → seed < first → IsTried true)

-- A line of a word and a number.
abbrev pub total_text : List ℕ → ℕ → List ℕ
total_text word number = line_of (word ++ codes " " ++ decimal number)

-- The lines of the totals, and the line `legal yes`.
abbrev pub totals_text : ℕ → ℕ → ℕ → ℕ → ℕ → List ℕ
totals_text seeds events calls answered rings =
    total_text (codes "seeds") seeds ++ total_text (codes "events") events ++ total_text (codes "calls") calls
    ++ total_text (codes "answered") answered ++ total_text (codes "rings") rings ++ line_of (codes "legal yes")

-- The text has totals over this number of seeds, and the line `legal yes`.
abbrev pub IsTotals : ℕ → List ℕ → Type 0
IsTotals seeds text = (events calls answered rings : ℕ) × (text ≡ totals_text seeds events calls answered rings)

-- The text is a script after a line that says that its run is not legal.
abbrev pub IsIllegal : (List ℕ → Type 0) → List ℕ → Type 0
IsIllegal IsScript text = (script : List ℕ) × IsScript script × (text ≡ line_of (codes "# legal no") ++ script)
