-- The first answer to the ticket is found, as for the rest of the list.
use Rattle.std.proofs.Common.{◌≡◌, ◌<◌, ◌∙◌, sym, ap, Some, length, get_or, drop, ◌+◌, arith}
use Rattle.std.proofs.lemmas.Bool.{cond-true, cond-false}
use Rattle.ring_session.specs.RecentAnswers.{recent_answer_to}
use Rattle.ring_session.proofs.AnswersGrow.{recent_answer_to-next}
use Rattle.ring_session.proofs.recent_answers.RecentAnswers.answer_to.Goals as goal

pub returns-then-eq : goal.returns-then-eq
returns-then-eq g c =
    let e = ap length c.self.view_is in
    let k = c.index.result.now in
    let within : c.loop-place.place < length c.args.self.now = omega (arith, e, c.loop-place-test.true, c.len-place-end.ensures) in
    let at : k ≡ get_or c.args.self.now c.loop-place.place k = rw c.self.view_is at c.index.ensures in
    let next = recent_answer_to-next c.args.ticket c.args.self.now c.loop-place.place k within at in
    let same = sym c.eq.ensures ∙ c.if-eq.true in
    sym (c.loop-place.invariant ∙ next ∙ cond-true _ (Some k.answer) (recent_answer_to c.args.ticket (drop (c.loop-place.place + 1) c.args.self.now)) same)

pub loop-place-preserved : goal.loop-place-preserved
loop-place-preserved g c =
    let e = ap length c.self.view_is in
    let k = c.index.result.now in
    let within : c.loop-place.place < length c.args.self.now = omega (arith, e, c.loop-place-test.true, c.len-place-end.ensures) in
    let at : k ≡ get_or c.args.self.now c.loop-place.place k = rw c.self.view_is at c.index.ensures in
    let next = recent_answer_to-next c.args.ticket c.args.self.now c.loop-place.place k within at in
    let other = sym c.eq.ensures ∙ c.if-eq.false in
    c.loop-place.invariant ∙ next ∙ cond-false _ (Some k.answer) (recent_answer_to c.args.ticket (drop (c.loop-place.place + 1) c.args.self.now)) other
