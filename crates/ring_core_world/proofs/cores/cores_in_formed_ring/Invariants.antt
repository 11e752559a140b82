-- The processors so far are in the ring.
use Rattle.std.proofs.Common.{◌≡◌, ◌∷◌, ◌-◌, map}
use Rattle.ring_base.specs.Numbers.{numbers_from}
use Rattle.ring_core_spec.specs.State.{formed}
use Rattle.ring_core_world.proofs.cores.cores_in_formed_ring.Given as goal

abbrev pub invariant-loop-before : goal.invariant-loop-before
invariant-loop-before g l = l.cores.items ≡ l.fn.representative ∷ map (formed l.fixed.count) (numbers_from 2 (l.before - 1))
