-- The nodes so far have no copies yet.
use Rattle.std.proofs.Common.{◌≡◌, [], length}
use Rattle.std.specs.List.{AllByRecursion}
use Rattle.ring_world.specs.SpareCalls.{SpareCalls}
use Rattle.ring_world.proofs.world.new_spares.Given as goal

abbrev pub invariant-loop : goal.invariant-loop
invariant-loop g l = (length l.spares.items ≡ l.counter) × AllByRecursion (λ (s : SpareCalls g.row.A.Denot). s.calls ≡ []) l.spares.items
