use Rattle.ring_session.specs.SnapshotsLaws.{tables_restore}
use Rattle.ring_session.specs.Table.{table_after}
use Rattle.ring_session.proofs.SnapshotTables.{HasSnapshot-after}
use Rattle.ring_order_proof.proofs.TrimsWhenDue.{none-due, closed-idle}
use Rattle.ring_order_proof.proofs.hand_over_laws.prompt_trim_law.Goals as goal

pub returns-clause-after : goal.returns-clause-after
returns-clause-after g c = λ group events node few limits low high.
    let O = g.O.Object in
    let laws = g.met.O.Object in
    let restored = tables_restore O.is_content O.sequential.snapshot_of O.sequential.restored laws.restores in
    none-due O.sequential (λ calls keep short. restored.same (table_after O.sequential calls)
    (HasSnapshot-after O.sequential O.is_content laws.keeps laws.replies calls keep laws.starts) short) group few events limits node low high

pub returns-clause-in_steps : goal.returns-clause-in_steps
returns-clause-in_steps g c = λ group events node input few limits low high comes.
    let O = g.O.Object in
    let laws = g.met.O.Object in
    let restored = tables_restore O.is_content O.sequential.snapshot_of O.sequential.restored laws.restores in
    closed-idle O.sequential (λ calls keep short. restored.same (table_after O.sequential calls)
    (HasSnapshot-after O.sequential O.is_content laws.keeps laws.replies calls keep laws.starts) short) group few events limits node low high input comes
