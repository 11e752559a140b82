-- The cores so far are made.
use Rattle.std.proofs.Common.{◌≡◌, map}
use Rattle.ring_base.specs.Numbers.{numbers_from}
use Rattle.ring_core_spec.specs.State.{opening}
use Rattle.ring_core_world.proofs.cores.cores_at_opening.Given as goal

abbrev pub invariant-loop-before : goal.invariant-loop-before
invariant-loop-before g l = l.cores.items ≡ map (opening l.fixed.count) (numbers_from 1 l.before)
