-- The parts of the record are the ticket's bytes and the reply.
use Rattle.std.proofs.Common.{rules, [], ◌∷◌, refl, subst, sym}
use Rattle.std.specs.Prelude.{OnOk}
use Rattle.std.specs.Io.KnownBytes.{Appends}
use Rattle.byteorder.specs.Endian.{big_bytes}
use Rattle.ring_session.specs.declared.answer.Answer.{Answer}
use Rattle.ring_records.specs.NodeRecords.{answer_record}
use Rattle.ring_records.proofs.Records.{told_as}
use Rattle.ring_records.proofs.node_records.write_answer.Goals as goal

pub returns-in-Done : goal.returns-in-Done
returns-in-Done g c =
    let call = c.write_record in
    let node_records = told_as call.result _ _ 68 _ _ (big_bytes 8 c.args.ticket) c.in-Done.reply (search rules) c.as_slice.ensures.value call.ensures in
    subst (λ (a : Answer). OnOk call.result (Appends (g.W.Write.contents c.args.out.now) (g.W.Write.contents call.new.out) (answer_record c.args.ticket a)))
    (sym c.in-Done.is) node_records

pub returns-in-Kept : goal.returns-in-Kept
returns-in-Kept g c =
    let call = c.write_record-in-Kept in
    let node_records = told_as call.result _ _ 75 _ _ (big_bytes 8 c.args.ticket) c.in-Kept.reply (search rules) c.as_slice-in-Kept.ensures.value call.ensures in
    subst (λ (a : Answer). OnOk call.result (Appends (g.W.Write.contents c.args.out.now) (g.W.Write.contents call.new.out) (answer_record c.args.ticket a)))
    (sym c.in-Kept.is) node_records

pub returns-in-Refused : goal.returns-in-Refused
returns-in-Refused g c =
    let call = c.write_record-in-Refused in
    let node_records = told_as call.result _ _ 82 _ _ (big_bytes 8 c.args.ticket) (c.in-Refused.number ∷ []) (search rules) refl call.ensures in
    subst (λ (a : Answer). OnOk call.result (Appends (g.W.Write.contents c.args.out.now) (g.W.Write.contents call.new.out) (answer_record c.args.ticket a)))
    (sym c.in-Refused.is) node_records
