use Rattle.ring_console.specs.Running.{AreTurnsDone}
use Rattle.ring_trace.proofs.tracer.Tracer.pump.Given as goal

-- This number of turns is taken.
abbrev pub invariant-loop : goal.invariant-loop
invariant-loop g l = AreTurnsDone g.O.Object.sequential l.counter l.initial.self.run l.self.run
