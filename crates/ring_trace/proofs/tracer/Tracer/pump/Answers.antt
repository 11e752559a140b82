use Rattle.std.proofs.Common.{◌∙◌, sym, arith}
use Rattle.ring_console.proofs.RunGoesOn.{one_more, pumped}
use Rattle.ring_console.proofs.Turning.{none_open}
use Rattle.ring_trace.proofs.tracer.Tracer.pump.Goals as goal

pub make_turn-requires : goal.make_turn-requires
make_turn-requires g c = sym c.first_open_copy.ensures ∙ c.in-Some.is

pub loop-preserved : goal.loop-preserved
loop-preserved g c =
    one_more g.O.Object.sequential c.loop.counter c.args.self.now.run c.loop.self.run c.make_turn.new.self.run c.loop.invariant c.in_ok-make_turn.ensures

pub returns : goal.returns
returns g c =
    pumped g.O.Object.sequential c.args.turns c.loop.counter c.args.self.now.run c.loop.self.run c.loop.auto.counter-end
    (λ less. absurd (omega (arith, c.loop-test.false, less))) c.loop.invariant

pub returns-in_default : goal.returns-in_default
returns-in_default g c =
    pumped g.O.Object.sequential c.args.turns c.loop.counter c.args.self.now.run c.loop.self.run c.loop.auto.counter-end
    (λ less. none_open c.loop.self.run.open_copies (sym c.first_open_copy.ensures ∙ c.in_default.is)) c.loop.invariant
