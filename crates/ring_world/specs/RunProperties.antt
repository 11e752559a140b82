-- What holds of a world after further events: the one order, and virtual synchrony of its ring cores.
-- Rules: Sessions 10 and 11; Outputs 11
use Rattle.std.specs.Prelude.{ℕ, ◌≤◌}
use Rattle.ring_base.specs.Prefixes.{IsListPrefix}
use Rattle.ring_object.specs.Operations.{Sequential}
use Rattle.ring_log.specs.EpochHistories.{committed_of}
use Rattle.ring_session.specs.Deduplicated.{deduplicated}
use Rattle.ring_node_spec.specs.Histories.{IsLinearization}
use Rattle.ring_node_spec.specs.Worlds.{World, order, whole_epochs_in, world_opening}
use Rattle.ring_order_proof.specs.Linear.{HasCommittedPlaces, FollowsOrder}
use Rattle.ring_order_proof.specs.Projection.{core_events_of_run}
use Rattle.ring_order_proof.specs.Synchronous.{IsSynchronous}
use Rattle.ring_world.specs.WorldView.{WorldView, world_of}

-- of the world before and after any events
pub record IsContinuation {O A : Type 0} (object : Sequential O) (old new : WorldView A) : Type 0 where
  pub explains : IsLinearization object (order (world_of object new)) (world_of object new).history
  pub grows : IsListPrefix (order (world_of object old)) (order (world_of object new))
  pub fronts : (node : ℕ) → 1 ≤ node → node ≤ new.group.count →
      IsListPrefix (deduplicated (committed_of new.group (whole_epochs_in (world_of object new) node))) (order (world_of object new))
  pub follows : (node : ℕ) → 1 ≤ node → node ≤ new.group.count →
      HasCommittedPlaces object ((world_of object new).nodes node) (committed_of new.group (whole_epochs_in (world_of object new) node))
      × FollowsOrder object ((world_of object new).nodes node) (committed_of new.group (whole_epochs_in (world_of object new) node))
      (order (world_of object new))
  pub synchronous : IsSynchronous object new.group new.events
  pub outs_grow : IsListPrefix (core_events_of_run object (world_opening old.group) old.events).outs (core_events_of_run object (world_opening new.group) new.events).outs
