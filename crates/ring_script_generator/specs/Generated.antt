-- Scripts generated from seeds.
-- Formats: The command line
use Rattle.std.specs.Prelude.{◌≡◌, ◌+◌, ◌<◌, ◌≤◌, ℕ, min, length, List, Some, Ok, slice_get}
use Rattle.ring_base.specs.Group.{AreVotes}
use Rattle.ring_base.specs.declared.fault.Fault.{Fault}
use Rattle.ring_base.specs.declared.fault.Fault.TheVariants.{NotMember, BadScript, Memory}
use Rattle.ring_script.specs.Lines.{LineRequest}
use Rattle.ring_script.specs.Operations.{OperationForm}
use Rattle.ring_script.specs.Scripts.{Schedule, script_by, max_script_bytes}
use Rattle.ring_script.specs.ShelfVocabulary.{shelf_operation_forms}

-- The text is a generated script for these votes and this number of lines. The votes are those of a group. The text is
-- a script for an object with these operations, and its nodes have exactly these votes. It has as many lines as
-- requested, at most 10,000, none of them `show`, and then `show`.
pub record IsGeneratedBy (forms : List OperationForm) (votes : List ℕ) (lines : ℕ) (text : List ℕ) : Type 0 where
  pub are_votes : AreVotes votes
  pub short : length text ≤ max_script_bytes
  pub schedule : Schedule
  pub is_script : script_by forms text ≡ Ok schedule
  pub nodes_are : schedule.nodes ≡ record { count = length votes; votes = votes }
  pub lines_are : length schedule.asked ≡ min lines 10000 + 1
  pub asks : (k number : ℕ) → k < min lines 10000 → ¬ (slice_get schedule.asked k ≡ Some (number, LineRequest.Show))
  pub shows : (number : ℕ) × (slice_get schedule.asked (min lines 10000) ≡ Some (number, LineRequest.Show))

-- The same for the standard object.
abbrev pub IsGenerated : List ℕ → ℕ → List ℕ → Type 0
IsGenerated votes lines text = IsGeneratedBy shelf_operation_forms votes lines text

-- Why nothing is generated: these aren't the votes of a group; or they are, and an allocation failed or the generated
-- text isn't such a script.
abbrev pub IsNotGenerated : List ℕ → Fault → Type 0
IsNotGenerated votes NotMember = ¬ AreVotes votes
IsNotGenerated votes BadScript = AreVotes votes
IsNotGenerated votes Memory = AreVotes votes
IsNotGenerated votes _ = ⊥
