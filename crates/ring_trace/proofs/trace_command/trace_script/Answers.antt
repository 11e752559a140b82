use Rattle.std.proofs.Common.{subst}
use Rattle.std.specs.Prelude.{Result, Ok, Err, OnOk}
use Rattle.std.specs.declared.alloc.Global.{Global}
use Rattle.ring_console.specs.Running.{RunView, AreLinesDone}
use Rattle.ring_trace.proofs.trace_command.trace_script.Goals as goal

-- A fact that two facts at `Ok` imply.
both_ok : {X E : Type 0} (r : Result X E) (P Q R : Type 0) → (P → Q → R) → OnOk r P → OnOk r Q → OnOk r R
both_ok (Ok x) P Q R f p q = f p q
both_ok (Err e) P Q R f p q = p

pub returns : goal.returns
returns g c =
    both_ok c.trace_run-told.result _ _ _ (λ done sends. (
      c.trace_run-told.new.self.run,
      done.0,
      subst (λ (r : RunView Global). AreLinesDone g.O.Object.sequential c.args.script.lines.items r c.trace_run-told.new.self.run done.0) c.in_ok-tracer.ensures done.1,
      sends,
    )) c.trace_run-told.ensures.runs c.trace_run-told.ensures.sends
