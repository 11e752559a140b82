-- The promise of `poll`.
-- Rules: The book and the threads 15 and 26
use Rattle.std.specs.Prelude.{ℕ, ◌≡◌, ◌<◌, ◌+◌, List, length, Some, slice_get}
use Rattle.ring_base.specs.Group.{Group}
use Rattle.ring_object.specs.Operations.{Sequential}
use Rattle.ring_session.specs.declared.answer.Answer.{Answer}
use Rattle.ring_book.specs.Lines.{first_answer_in, IsRun, steps_of, calls_of, LineView}

-- Some run of the group issues the node's ticket, whose number counts the node's calls, and has this answer to it.
pub record IsAnswered (A : Type 0) {O : Type 0} (object : Sequential O) (group : Group) (node ticket : ℕ) (answer : Answer) : Type 0 where
  pub lines : List (LineView A)
  pub run : IsRun object group lines
  pub issued : ticket < length (calls_of (steps_of node lines))
  pub answered : first_answer_in lines node ticket ≡ Some answer

-- These are answers to the node's tickets with the numbers from `first` on, in order.
abbrev pub AreAnswered : (A : Type 0) {O : Type 0} → Sequential O → Group → ℕ → ℕ → List Answer → Type 0
AreAnswered A object group node first answers = (i : ℕ) (a : Answer) → slice_get answers i ≡ Some a → IsAnswered A object group node (first + i) a
