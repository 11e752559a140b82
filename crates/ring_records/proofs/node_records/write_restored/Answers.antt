use Rattle.std.proofs.Common.{rules, ℕ, [], Option, refl, subst, sym}
use Rattle.std.specs.Prelude.{OnOk}
use Rattle.std.specs.Io.KnownBytes.{Appends}
use Rattle.byteorder.specs.Endian.{big_bytes}
use Rattle.ring_records.specs.NodeRecords.{restored_text}
use Rattle.ring_records.proofs.Records.{told_as}
use Rattle.ring_records.proofs.node_records.write_restored.Goals as goal

pub returns : goal.returns
returns g c =
    let call = c.write_record in
    let node_records = told_as call.result _ _ 71 _ _ (big_bytes 8 c.in-Some.places) [] (search rules) refl call.ensures in
    subst (λ (o : Option ℕ). OnOk call.result (Appends (g.W.Write.contents c.args.out.now) (g.W.Write.contents call.new.out) (restored_text o)))
    (sym c.in-Some.is) node_records
