use Rattle.std.proofs.Common.{◌∙◌, sym}
use Rattle.ring_console.proofs.Turning.{none_open}
use Rattle.ring_sweep.proofs.Walking.{turns_more, turns_idle}
use Rattle.ring_sweep.proofs.counted_run.CountedRun.take_turns.Goals as goal

pub loop-preserved : goal.loop-preserved
loop-preserved g c =
    turns_more g.O.Object.sequential c.loop.counter c.args.self.now.events_done c.loop.self.events_done c.take_turn.new.self.events_done c.args.self.now.run c.loop.self.run
    c.take_turn.new.self.run c.loop.invariant c.in_ok-take_turn.ensures.ok

pub returns-in_default-clause-ok : goal.returns-in_default-clause-ok
returns-in_default-clause-ok g c =
    turns_idle g.O.Object.sequential c.args.turns c.loop.counter c.args.self.now.events_done c.loop.self.events_done c.args.self.now.run c.loop.self.run
    c.loop.auto.counter-end (none_open c.loop.self.run.open_copies (sym c.first_open_copy.ensures ∙ c.in_default.is)) c.loop.invariant
