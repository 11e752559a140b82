use Rattle.ring_session.specs.SnapshotsLaws.{tables_restore}
use Rattle.ring_session.specs.Table.{table_after}
use Rattle.ring_session.proofs.SnapshotTables.{HasSnapshot-after}
use Rattle.ring_order_proof.proofs.DoneCalls.{all_done}
use Rattle.ring_order_proof.proofs.frame_laws.done_calls_law.Goals as goal

pub returns : goal.returns
returns g c = λ group events node few limits low high.
    let O = g.O.Object in
    let laws = g.met.O.Object in
    let restored = tables_restore O.is_content O.sequential.snapshot_of O.sequential.restored laws.restores in
    all_done O.sequential group few (λ calls keep short. restored.same (table_after O.sequential calls)
    (HasSnapshot-after O.sequential O.is_content laws.keeps laws.replies calls keep laws.starts) short) events limits node low high
