use Rattle.std.proofs.Common.{◌≡◌, ◌≤◌}
use Rattle.ring_sweep.specs.ScriptPositions.{HasReachedEvent}
use Rattle.ring_sweep.proofs.base_run.BaseRun.go_to.Given as goal

-- The lines so far are carried out, and the event is not among them.
abbrev pub invariant-loop-index : goal.invariant-loop-index
invariant-loop-index g l =
    (l.self.lines ≡ l.index)
    × HasReachedEvent g.O.Object.sequential l.script.nodes l.script.lines.items l.index l.self.turns l.self.counted_run.events_done l.self.counted_run.run
    × (l.self.counted_run.events_done ≤ l.before)
