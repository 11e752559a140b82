use Rattle.ring_sweep.proofs.Gapping.{AreTurns}
use Rattle.ring_sweep.proofs.counted_run.CountedRun.take_turns_until.Given as goal

-- This number of turns is taken, none of them the event.
abbrev pub invariant-loop-taken : goal.invariant-loop-taken
invariant-loop-taken g l =
    AreTurns g.O.Object.sequential l.taken l.from l.before l.initial.self.events_done l.self.events_done l.initial.self.run l.self.run
