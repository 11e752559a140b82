use Rattle.std.proofs.Common.{length, take}
use Rattle.ring_checker.specs.Checks.{ArePlaces}
use Rattle.ring_checker.proofs.check.note_issues.Given as goal

abbrev pub invariant-loop-k : goal.invariant-loop-k
invariant-loop-k g l = ArePlaces g.O.Object.sequential l.order (take l.k l.history) (length l.order) l.places
