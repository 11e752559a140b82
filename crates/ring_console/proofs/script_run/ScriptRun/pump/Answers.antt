use Rattle.std.proofs.Common.{◌∙◌, sym, subst, arith}
use Rattle.ring_console.specs.Running.{RunView, AreTurnsDone, IsPumpInterrupted}
use Rattle.ring_console.proofs.RunGoesOn.{turned, turn_broken, one_more, pumped, none_left}
use Rattle.ring_base.proofs.Results.{on-err}
use Rattle.ring_console.proofs.script_run.ScriptRun.pump.Goals as goal

pub loop-preserved : goal.loop-preserved
loop-preserved g c =
    one_more g.O.Object.sequential c.loop.counter c.args.self.now c.loop.self c.deliver_copy.new.self c.loop.invariant
    (turned g.O.Object.sequential c.in-Some.pair c.loop.self c.close_first_copy.new.self c.deliver_copy.new.self
    c.in-Some.ensures.takes c.close_first_copy.ensures.same c.in_ok-deliver_copy.ensures.done)

pub returns-clause-done : goal.returns-clause-done
returns-clause-done g c =
    pumped g.O.Object.sequential c.args.turns c.loop.counter c.args.self.now c.loop.self c.loop.auto.counter-end
    (λ less. absurd (omega (arith, c.loop-test.false, less))) c.loop.invariant

pub returns-in_default-clause-done : goal.returns-in_default-clause-done
returns-in_default-clause-done g c =
    let none = c.in_default.ensures.takes in
    let same = none_left g.O.Object.sequential c.loop.self c.close_first_copy.new.self c.close_first_copy.ensures.same none.1 in
    pumped g.O.Object.sequential c.args.turns c.loop.counter c.args.self.now c.close_first_copy.new.self c.loop.auto.counter-end (λ less. none.1 ∙ none.0)
    (subst (λ (r : RunView g.row.O-Alloc.Denot). AreTurnsDone g.O.Object.sequential c.loop.counter c.args.self.now r) (sym same) c.loop.invariant)

pub returns-in_err-deliver_copy-clause-breaks : goal.returns-in_err-deliver_copy-clause-breaks
returns-in_err-deliver_copy-clause-breaks g c =
    on-err c.from_residual.result (IsPumpInterrupted g.O.Object.sequential c.args.turns c.args.self.now c.deliver_copy.new.self) record {
      taken = c.loop.counter;
      less = c.loop-test.true;
      mid = c.loop.self;
      turn = c.loop.invariant;
      next = turn_broken g.O.Object.sequential c.in-Some.pair c.loop.self c.close_first_copy.new.self c.deliver_copy.new.self
          c.in-Some.ensures.takes c.close_first_copy.ensures.same c.in_err-deliver_copy.ensures.rests;
    }
