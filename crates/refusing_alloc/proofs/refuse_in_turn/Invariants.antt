-- Each call so far was refused a request, and returned `Err`.
use Rattle.std.proofs.Common.{ℕ, ◌<◌, Err}
use Rattle.std.specs.Prelude.{alloc_error}
use Rattle.refusing_alloc.specs.RefusingHeap.{MayReturn}
use Rattle.refusing_alloc.proofs.refuse_in_turn.Given as goal

abbrev pub invariant-loop-passed_requests : goal.invariant-loop-passed_requests
invariant-loop-passed_requests g l = (k : ℕ) → k < l.passed_requests → MayReturn (goal.F-post g l.work) k (Err alloc_error)
