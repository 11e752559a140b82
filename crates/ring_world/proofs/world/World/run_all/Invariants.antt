-- The events so far are done.
use Rattle.std.proofs.Common.{◌≡◌, take}
use Rattle.ring_world.specs.WorldView.{IsRunOfEvents}
use Rattle.ring_world.proofs.world.World.run_all.Given as goal

abbrev pub invariant-loop-event : goal.invariant-loop-event
invariant-loop-event g l = IsRunOfEvents g.O.Object.sequential (take l.event-index l.events) l.fn.self l.self × (l.self.done ≡ l.event-index)
