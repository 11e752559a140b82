use Rattle.std.specs.Prelude.{ℕ, List}
use Rattle.ring_console.specs.Running.{AreLinesDone}
use Rattle.ring_trace.proofs.tracer.Tracer.trace_lines.Given as goal

-- The lines so far are carried out.
abbrev pub invariant-loop-numbered : goal.invariant-loop-numbered
invariant-loop-numbered g l = (text : List ℕ) × AreLinesDone g.O.Object.sequential l.yielded l.initial.self.run l.self.run text
