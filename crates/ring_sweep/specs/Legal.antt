-- Legal runs.
-- Rules: Sessions 10 and 11
-- Formats: The command line
use Rattle.std.specs.Prelude.{ℕ, ◌≤◌, List}
use Rattle.ring_base.specs.Prefixes.{IsListPrefix}
use Rattle.ring_object.specs.Operations.{Sequential}
use Rattle.ring_payload.specs.declared.call.Call.{Call}
use Rattle.ring_session.specs.Deduplicated.{deduplicated}
use Rattle.ring_log.specs.EpochHistories.{committed_of}
use Rattle.ring_node_spec.specs.Histories.{IsLinearization}
use Rattle.ring_node_spec.specs.Worlds.{whole_epochs_in, order}
use Rattle.ring_console.specs.Worlds.{WorldView, world_of}

module _ {O : Type 0} (object : Sequential O) where
  -- Each node's committed calls, duplicates removed, are a prefix of these.
  abbrev pub ArePrefixes : {A : Type 0} → WorldView A → List (Call A) → Type 0
  ArePrefixes p calls = (node : ℕ) → 1 ≤ node → node ≤ p.group.count → IsListPrefix (deduplicated (committed_of p.group (whole_epochs_in (world_of object p) node))) calls

  -- The order of the world is legal for its history, and each node has committed a prefix of it.
  pub record IsLegal {A : Type 0} (p : WorldView A) : Type 0 where
    pub explains : IsLinearization object (order (world_of object p)) (world_of object p).history
    pub fronts : ArePrefixes p (order (world_of object p))
