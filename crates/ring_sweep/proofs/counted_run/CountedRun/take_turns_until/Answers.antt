use Rattle.std.proofs.Common.{◌∙◌, sym, arith}
use Rattle.ring_console.proofs.Turning.{none_open}
use Rattle.ring_sweep.proofs.Gapping.{turns_next, turns_ended, turns_done, is_turn_due}
use Rattle.ring_sweep.proofs.counted_run.CountedRun.take_turns_until.Goals as goal

pub loop-taken-preserved : goal.loop-taken-preserved
loop-taken-preserved g c =
    let old = c.args.self.now in
    let here = c.loop-taken.self in
    let next = c.take_turn.new.self in
    turns_next g.O.Object.sequential c.loop-taken.taken c.args.from c.args.before old.events_done here.events_done next.events_done old.run here.run next.run
    c.loop-taken.auto.taken c.loop-taken.invariant c.in_ok-take_turn.ensures.ok (sym c.is_turn_due.ensures ∙ c.if-is_turn_due.false)

pub returns-then-is_turn_due-clause-ok : goal.returns-then-is_turn_due-clause-ok
returns-then-is_turn_due-clause-ok g c =
    let old = c.args.self.now in
    let here = c.loop-taken.self in
    is_turn_due g.O.Object.sequential c.args.turns c.loop-taken.taken c.args.from c.args.before old.events_done here.events_done old.run here.run
    c.loop-taken.auto.taken c.loop-taken-test.true c.loop-taken.invariant (sym c.is_turn_due.ensures ∙ c.if-is_turn_due.true)

pub returns-in_default-clause-ok : goal.returns-in_default-clause-ok
returns-in_default-clause-ok g c =
    let old = c.args.self.now in
    let here = c.loop-taken.self in
    turns_ended g.O.Object.sequential c.args.turns c.loop-taken.taken c.args.from c.args.before old.events_done here.events_done old.run here.run
    (c.loop-taken.auto.taken-end c.requires) (none_open here.run.open_copies (sym c.first_open_copy.ensures ∙ c.in_default.is)) c.loop-taken.invariant

pub returns-clause-ok : goal.returns-clause-ok
returns-clause-ok g c =
    let old = c.args.self.now in
    let here = c.loop-taken.self in
    let most = c.loop-taken.auto.taken-end c.requires in
    turns_done g.O.Object.sequential c.args.turns c.loop-taken.taken c.args.from c.args.before old.events_done here.events_done old.run here.run
    (omega (arith, most, c.loop-taken-test.false)) c.loop-taken.invariant
