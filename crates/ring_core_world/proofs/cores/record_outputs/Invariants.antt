-- The outputs so far are recorded.
use Rattle.std.proofs.Common.{◌≡◌, ◌++◌, map}
use Rattle.ring_core_world.specs.Running.{places_from}
use Rattle.ring_core_world.proofs.cores.record_outputs.Given as goal

abbrev pub invariant-loop-out : goal.invariant-loop-out
invariant-loop-out g l = (l.outs.items ≡ l.fn.outs.items ++ map (λ o. (l.node, o)) l.yielded) × (l.places.items ≡ places_from 0 l.outs.items)
