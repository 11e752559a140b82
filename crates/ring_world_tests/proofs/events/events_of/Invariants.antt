-- The events so far are within the limits.
use Rattle.std.specs.List.{AllByRecursion}
use Rattle.ring_node_spec.specs.WorldLimits.{EventFits}
use Rattle.ring_world_tests.proofs.events.events_of.Given as goal

abbrev pub invariant-loop-line : goal.invariant-loop-line
invariant-loop-line g l = AllByRecursion EventFits l.events.items
