-- Texts that are scripts, and texts that aren't.
-- Formats: Scripts
use Rattle.std.specs.Prelude.{◌≡◌, ℕ, ◌≤◌, List, length, Ok}
use Rattle.ring_script.specs.Operations.{OperationForm}
use Rattle.ring_script.specs.Scripts.{Schedule, max_script_bytes, script_by}

-- The text is a script with these operations: it isn't too long, and has no fault, neither in a line nor for lack of a
-- line `nodes N`.
abbrev pub IsScript : List OperationForm → List ℕ → Type 0
IsScript forms text = (length text ≤ max_script_bytes) × ((schedule : Schedule) × (script_by forms text ≡ Ok schedule))

-- The text isn't a script: it is too long, or has a fault.
abbrev pub IsNoScript : List OperationForm → List ℕ → Type 0
IsNoScript forms text = IsScript forms text → ⊥
