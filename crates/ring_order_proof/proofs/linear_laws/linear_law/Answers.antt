use Rattle.ring_session.specs.SnapshotsLaws.{tables_restore}
use Rattle.ring_session.specs.Table.{table_after}
use Rattle.ring_session.proofs.SnapshotTables.{HasSnapshot-after}
use Rattle.ring_order_proof.proofs.Bases.{stays, never, never_found}
use Rattle.ring_order_proof.proofs.BytesRestored.{restores}
use Rattle.ring_order_proof.proofs.OrderedRuns.{explains, run-grows, node-front, node-follows, only-issued}
use Rattle.ring_order_proof.proofs.RunFacts.{node_is}
use Rattle.ring_order_proof.proofs.linear_laws.linear_law.Goals as goal

pub returns-clause-explains : goal.returns-clause-explains
returns-clause-explains g c = λ group events few limits.
    let O = g.O.Object in
    let laws = g.met.O.Object in
    let restored = tables_restore O.is_content O.sequential.snapshot_of O.sequential.restored laws.restores in
    explains O.sequential group few (λ calls keep short. restored.same (table_after O.sequential calls)
    (HasSnapshot-after O.sequential O.is_content laws.keeps laws.replies calls keep laws.starts) short) events limits

pub returns-clause-grows : goal.returns-clause-grows
returns-clause-grows g c = λ group events later few. run-grows g.O.Object.sequential group few events later

pub returns-clause-fronts : goal.returns-clause-fronts
returns-clause-fronts g c = λ group events node few low high. node-front g.O.Object.sequential group few events node low high

pub returns-clause-follows : goal.returns-clause-follows
returns-clause-follows g c = λ group events node few limits low high.
    let O = g.O.Object in
    let laws = g.met.O.Object in
    let restored = tables_restore O.is_content O.sequential.snapshot_of O.sequential.restored laws.restores in
    node-follows O.sequential group few (λ calls keep short. restored.same (table_after O.sequential calls)
    (HasSnapshot-after O.sequential O.is_content laws.keeps laws.replies calls keep laws.starts) short) events node limits low high

pub returns-clause-stays : goal.returns-clause-stays
returns-clause-stays g c = λ group events few. stays g.O.Object.sequential group few events

pub returns-clause-never : goal.returns-clause-never
returns-clause-never g c = λ group events node input few low high may.
    let object = g.O.Object.sequential in
    let there = node_is object group events node low high in
    (never object group few events node input there may, never_found object group few events node input there may)

pub returns-clause-restores : goal.returns-clause-restores
returns-clause-restores g c = λ group events node input few limits low high may.
    let O = g.O.Object in
    let laws = g.met.O.Object in
    let restored = tables_restore O.is_content O.sequential.snapshot_of O.sequential.restored laws.restores in
    restores O.sequential group few events node input (node_is O.sequential group events node low high) may (λ calls keep short. restored.same
    (table_after O.sequential calls) (HasSnapshot-after O.sequential O.is_content laws.keeps laws.replies calls keep laws.starts) short) limits

pub returns-clause-issued : goal.returns-clause-issued
returns-clause-issued g c = λ group events few. only-issued g.O.Object.sequential group few events
