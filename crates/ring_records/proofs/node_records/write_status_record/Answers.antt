-- The parts of the record are the status and the members.
use Rattle.std.proofs.Common.{◌≡◌, [], Option, refl, subst, sym}
use Rattle.std.specs.Prelude.{OnOk}
use Rattle.std.specs.Io.KnownBytes.{Appends}
use Rattle.ring_records.specs.NodeRecords.{membership_bytes, status_bytes, status_record}
use Rattle.ring_records.specs.declared.membership.Membership.{Membership}
use Rattle.ring_records.proofs.Records.{told_as}
use Rattle.ring_records.proofs.node_records.write_status_record.Goals as goal

pub returns-in-Some : goal.returns-in-Some
returns-in-Some g c =
    let a = c.args in
    let call = c.write_record in
    let told = told_as call.result _ _ 81 _ _ (status_bytes a.state a.ring a.committed a.log a.trimmed) (membership_bytes c.in-Some.members)
    c.encode_status-bytes.ensures c.encode_membership.ensures call.ensures in
    subst (λ (m : Option Membership). OnOk call.result (Appends (g.W.Write.contents a.out.now) (g.W.Write.contents call.new.out)
    (status_record a.state a.ring a.committed a.log a.trimmed m))) (sym c.in-Some.is) told

pub returns-in-None : goal.returns-in-None
returns-in-None g c =
    let a = c.args in
    let call = c.write_record-in-None in
    let told = told_as call.result _ _ 81 _ _ (status_bytes a.state a.ring a.committed a.log a.trimmed) [] c.encode_status-bytes.ensures refl call.ensures in
    subst (λ (m : Option Membership). OnOk call.result (Appends (g.W.Write.contents a.out.now) (g.W.Write.contents call.new.out)
    (status_record a.state a.ring a.committed a.log a.trimmed m))) (sym c.in-None.is) told
