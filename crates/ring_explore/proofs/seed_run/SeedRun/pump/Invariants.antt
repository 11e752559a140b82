use Rattle.ring_console.specs.Running.{AreTurnsDone}
use Rattle.ring_explore.proofs.seed_run.SeedRun.pump.Given as goal

-- This number of turns is taken.
abbrev pub invariant-loop : goal.invariant-loop
invariant-loop g l = AreTurnsDone g.O.Object.sequential l.counter l.initial.self.run l.self.run
