use Rattle.std.proofs.Common.{sym, subst}
use Rattle.ring_console.specs.Running.{RunView, IsTurnDone}
use Rattle.ring_console.proofs.Turning.{one_turn}
use Rattle.ring_trace.proofs.tracer.Tracer.make_turn.Goals as goal

pub returns : goal.returns
returns g c =
    let turn = one_turn g.O.Object.sequential c.args.self.now.run c.run_line_silently.new.self c.args.open_copy
    (rw c.foresee_turn.ensures at c.in_ok-run_line_silently.ensures.ends) c.requires in
    subst (λ (r : RunView g.row.O-Alloc.Denot). IsTurnDone g.O.Object.sequential c.args.self.now.run r) (sym c.report_copy.ensures) turn
