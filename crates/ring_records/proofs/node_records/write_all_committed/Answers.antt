use Rattle.std.proofs.Common.{◌≡◌, ◌<◌, Some, slice_get, length, refl, arith}
use Rattle.std.proofs.lemmas.Option.{slice_get_read}
use Rattle.ring_payload.specs.declared.call.Call.{Call}
use Rattle.ring_records.specs.NodeRecords.{committed_record}
use Rattle.ring_records.proofs.Texts.{written_more}
use Rattle.ring_records.proofs.node_records.write_all_committed.Goals as goal

pub loop-call-preserved : goal.loop-call-preserved
loop-call-preserved g c =
    let all = c.args.calls.now in
    let k = c.loop-call.call-index in
    let within : k < length all = omega (arith, c.loop-call-test.true) in
    let at : slice_get all k ≡ Some c.call-item.result = slice_get_read all (length all) k c.call-item.result refl within c.call-item.is in
    written_more (λ (call : Call g.row.A.Denot). committed_record call) (g.W.Write.contents c.args.out.now)
    (g.W.Write.contents c.loop-call.out) (g.W.Write.contents c.write_committed.new.out) all k c.call-item.result at
    c.loop-call.invariant c.in_ok-write_committed.ensures
