use Rattle.std.proofs.Common.{◌≡◌, ◌<◌, Some, slice_get, length, refl, arith}
use Rattle.std.proofs.lemmas.Option.{slice_get_read}
use Rattle.ring_session.specs.declared.ticket_answer.TicketAnswer.{TicketAnswer}
use Rattle.ring_records.specs.NodeRecords.{answer_record}
use Rattle.ring_records.proofs.Texts.{written_more}
use Rattle.ring_records.proofs.node_records.write_answers.Goals as goal

pub loop-answered-preserved : goal.loop-answered-preserved
loop-answered-preserved g c =
    let all = c.args.answers.now in
    let k = c.loop-answered.answered-index in
    let within : k < length all = omega (arith, c.loop-answered-test.true) in
    let at : slice_get all k ≡ Some c.answered-item.result = slice_get_read all (length all) k c.answered-item.result refl within c.answered-item.is in
    written_more (λ (a : TicketAnswer g.row.A.Denot). answer_record a.ticket a.answer) (g.W.Write.contents c.args.out.now)
    (g.W.Write.contents c.loop-answered.out) (g.W.Write.contents c.write_answer.new.out) all k c.answered-item.result at
    c.loop-answered.invariant c.in_ok-write_answer.ensures
