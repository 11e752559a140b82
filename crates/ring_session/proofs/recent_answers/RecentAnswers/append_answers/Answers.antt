-- One more answer is appended to those so far.
use Rattle.std.proofs.Common.{length, arith, refl, ap}
use Rattle.ring_session.proofs.AnswersGrow.{last_64-few, kept-next}
use Rattle.ring_session.proofs.recent_answers.RecentAnswers.append_answers.Goals as goal

pub loop-answered-init : goal.loop-answered-init
loop-answered-init g c =
    let e = ap length c.self.view_is in
    last_64-few c.args.self.now (omega (arith, e, c.self.invariant.0))

pub loop-answered-preserved : goal.loop-answered-preserved
loop-answered-preserved g c =
    kept-next c.args.self.now c.loop-answered.self c.push.new.self c.args.answers.now c.loop-answered.answered-index
    c.answered-item.result _ c.loop-answered-test.true c.answered-item.is refl c.loop-answered.invariant
    c.push.ensures
