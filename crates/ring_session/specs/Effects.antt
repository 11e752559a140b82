-- The calls of a list that take effect, as found by a session table.
-- Rules: Sessions 6
use Rattle.std.specs.Prelude.{◌≡◌, List}
use Rattle.ring_object.specs.StatelessObject.{Content, stateless_object}
use Rattle.ring_payload.specs.declared.call.Call.{Call}
use Rattle.ring_session.specs.Deduplicated.{deduplicated}
use Rattle.ring_session.specs.Table.{Table, table_after}

-- The session table after some calls, and those of them that took effect.
pub record TableWithEffects (A : Type 0) : Type 0 where
  pub table : Table Content
  pub calls : List (Call A)

-- The table and the calls are those of the added calls.
pub record AreEffectsOf {A : Type 0} (added : List (Call A)) (found : TableWithEffects A) : Type 0 where
  pub table_is : found.table ≡ table_after stateless_object added
  pub calls_are : found.calls ≡ deduplicated added
