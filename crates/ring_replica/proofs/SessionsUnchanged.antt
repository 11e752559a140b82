-- As long as a node restores nothing, the sessions after its committed places don't change, and neither does the snapshot of the
-- dropped ones.
-- This is stated by the known logs before and after.
use Rattle.std.proofs.Common.{◌≡◌, ℕ, ◌-◌, ◌≤◌, ◌==◌, ◌&&◌, take, ap, ◌∙◌, arith, if◌then◌else◌}
use Rattle.std.specs.Prelude.{nat_lt, fold}
use Rattle.ring_object.specs.Operations.{Sequential}
use Rattle.ring_log.specs.KnownLog.{KnownLog, IsKnownLog}
use Rattle.ring_session.specs.Snapshots.{table_snapshot, restored_table}
use Rattle.ring_session.specs.Table.{Table, opening as table_opening, table_next}
use Rattle.ring_replication.specs.Replications.{IsKnownLogExtended}
use Rattle.ring_replication.proofs.IsKnownLogExtended.{take-fewer}
use Rattle.ring_replication.specs.NodeSpec.{restored_table_or, table_before, table_after_places, snapshot_at, snapshot_kept}

module _ {O A : Type 0} (object : Sequential O) (k now : KnownLog A) (on : IsKnownLogExtended k now) (is : IsKnownLog k) where
  pub before-on : table_before object now ≡ table_before object k
  before-on =
      ap (λ n. if n == 0 then table_opening object.initial else restored_table_or object (restored_table object.restored now.snapshot)) on.from
      ∙ ap (λ bs. if k.from == 0 then table_opening object.initial else restored_table_or object (restored_table object.restored bs)) on.bytes

  -- the sessions after committed places
  pub table-on : (places : ℕ) → places ≤ k.committed → table_after_places object now places ≡ table_after_places object k places
  table-on places le =
      ap (λ t. fold (table_next object) t (take (places - now.from) now.calls)) before-on
      ∙ ap (λ n. fold (table_next object) (table_before object k) (take (places - n) now.calls)) on.from
      ∙ ap (fold (table_next object) (table_before object k))
      (take-fewer (places - k.from) (k.committed - k.from) now.calls k.calls (omega (arith, le)) on.places)

  -- the snapshot of the dropped places
  pub snapshot-on : snapshot_kept object now ≡ snapshot_kept object k
  snapshot-on =
      ap (λ n. if nat_lt 0 n && (now.trimmed == n) then now.snapshot else snapshot_at object now now.trimmed) on.from
      ∙ ap (λ n. if nat_lt 0 k.from && (n == k.from) then now.snapshot else snapshot_at object now n) on.trimmed
      ∙ ap (λ bs. if nat_lt 0 k.from && (k.trimmed == k.from) then bs else snapshot_at object now k.trimmed) on.bytes
      ∙ ap (λ (t : Table O). if nat_lt 0 k.from && (k.trimmed == k.from) then k.snapshot else table_snapshot object.snapshot_of t)
      (table-on k.trimmed is.high)
