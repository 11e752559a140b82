use Rattle.std.proofs.Common.{take}
use Rattle.ring_sweep.specs.Variants.{steps_of, AreStepsDone}
use Rattle.ring_sweep.proofs.counted_run.CountedRun.run_lines.Given as goal

-- The lines so far are carried out.
abbrev pub invariant-loop-numbered : goal.invariant-loop-numbered
invariant-loop-numbered g l =
    AreStepsDone g.O.Object.sequential (steps_of (take l.numbered-index l.lines)) l.initial.self.events_done l.self.events_done l.initial.self.run l.self.run
