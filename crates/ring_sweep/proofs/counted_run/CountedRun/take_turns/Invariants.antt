use Rattle.std.specs.Prelude.{replicate}
use Rattle.ring_sweep.specs.Variants.{turn, AreStepsDone}
use Rattle.ring_sweep.proofs.counted_run.CountedRun.take_turns.Given as goal

-- This number of turns is taken.
abbrev pub invariant-loop : goal.invariant-loop
invariant-loop g l = AreStepsDone g.O.Object.sequential (replicate l.counter turn) l.initial.self.events_done l.self.events_done l.initial.self.run l.self.run
