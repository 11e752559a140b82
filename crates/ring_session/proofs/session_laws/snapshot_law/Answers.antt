use Rattle.ring_session.specs.SnapshotsLaws.{tables_restore}
use Rattle.ring_session.specs.Table.{table_after}
use Rattle.ring_session.proofs.SnapshotTables.{HasSnapshot-after}
use Rattle.ring_session.proofs.session_laws.snapshot_law.Goals as goal

pub returns : goal.returns
returns g c =
    let O = g.O.Object in
    let laws = g.met.O.Object in
    let restores = tables_restore O.is_content O.sequential.snapshot_of O.sequential.restored laws.restores in
    let after = HasSnapshot-after O.sequential O.is_content laws.keeps laws.replies in
    record {
      restores = restores;
      reached = λ calls limits. after calls limits laws.starts;
      comes_back = λ calls limits short. restores.same (table_after O.sequential calls) (after calls limits laws.starts) short;
    }
