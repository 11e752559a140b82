use Rattle.std.proofs.Common.{◌∙◌, sym, subst, arith}
use Rattle.ring_console.specs.Running.{RunView, AreTurnsDone}
use Rattle.ring_console.proofs.RunGoesOn.{turned, one_more, pumped, none_left}
use Rattle.ring_explore.proofs.seed_run.SeedRun.pump.Goals as goal

pub loop-preserved : goal.loop-preserved
loop-preserved g c =
    one_more g.O.Object.sequential c.loop.counter c.args.self.now.run c.loop.self.run c.deliver_copy.new.self.run c.loop.invariant
    (turned g.O.Object.sequential c.in-Some.pair c.loop.self.run c.close_first_copy.new.self c.deliver_copy.new.self.run
    c.in-Some.ensures.takes c.close_first_copy.ensures.same c.in_ok-deliver_copy.ensures.ok)

pub returns-clause-ok : goal.returns-clause-ok
returns-clause-ok g c =
    pumped g.O.Object.sequential c.args.turns c.loop.counter c.args.self.now.run c.loop.self.run c.loop.auto.counter-end
    (λ less. absurd (omega (arith, c.loop-test.false, less))) c.loop.invariant

pub returns-in_default-clause-ok : goal.returns-in_default-clause-ok
returns-in_default-clause-ok g c =
    let none = c.in_default.ensures.takes in
    let same = none_left g.O.Object.sequential c.loop.self.run c.close_first_copy.new.self c.close_first_copy.ensures.same none.1 in
    pumped g.O.Object.sequential c.args.turns c.loop.counter c.args.self.now.run c.close_first_copy.new.self c.loop.auto.counter-end (λ less. none.1 ∙ none.0)
    (subst (λ (r : RunView g.row.O-Alloc.Denot). AreTurnsDone g.O.Object.sequential c.loop.counter c.args.self.now.run r) (sym same) c.loop.invariant)
