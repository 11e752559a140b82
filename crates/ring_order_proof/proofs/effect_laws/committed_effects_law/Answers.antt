use Rattle.ring_session.specs.SnapshotsLaws.{tables_restore}
use Rattle.ring_session.specs.Table.{table_after}
use Rattle.ring_session.proofs.SnapshotTables.{HasSnapshot-after}
use Rattle.ring_order_proof.proofs.EffectCounts.{places, effects}
use Rattle.ring_order_proof.proofs.effect_laws.committed_effects_law.Goals as goal

pub returns-clause-places : goal.returns-clause-places
returns-clause-places g c = λ group events node few low high. places g.O.Object.sequential group few events node low high

pub returns-clause-effects : goal.returns-clause-effects
returns-clause-effects g c = λ group events node few limits low high.
    let O = g.O.Object in
    let laws = g.met.O.Object in
    let restored = tables_restore O.is_content O.sequential.snapshot_of O.sequential.restored laws.restores in
    effects O.sequential group few (λ calls keep short. restored.same (table_after O.sequential calls)
    (HasSnapshot-after O.sequential O.is_content laws.keeps laws.replies calls keep laws.starts) short) events node limits low high
