-- The events so far are done.
use Rattle.std.proofs.Common.{◌≡◌, take, filter}
use Rattle.ring_core_world.specs.Running.{run_extended, acts}
use Rattle.ring_core_world.proofs.running.run_events.Given as goal

abbrev pub invariant-loop-event : goal.invariant-loop-event
invariant-loop-event g l = (l.world ≡ run_extended l.fn.cores (filter (acts l.fn.formed) (take l.event-index l.events))) × (l.done ≡ l.event-index)
