-- The events so far keep the limits.
use Rattle.std.specs.List.{AllByRecursion}
use Rattle.ring_core_proof.specs.Limits.{EventFits}
use Rattle.ring_core_world_tests.proofs.steps.events_of.Given as goal

abbrev pub invariant-loop-line : goal.invariant-loop-line
invariant-loop-line g l = AllByRecursion EventFits l.events.items
