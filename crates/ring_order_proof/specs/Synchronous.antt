-- The ring part of a run of nodes is virtually synchronous.
-- Rules: Outputs 11
use Rattle.std.specs.Prelude.{List}
use Rattle.ring_base.specs.Group.{Group}
use Rattle.ring_object.specs.Operations.{Sequential}
use Rattle.ring_node_spec.specs.declared.event.Event.{Event}
use Rattle.ring_node_spec.specs.Worlds.{World, world_opening, run}
use Rattle.ring_synchrony_proof.specs.Chains.{NameSameMembers, SafeOutputsAreSafe, OutputsAreHeld}
use Rattle.ring_core_proof.specs.Worlds.{World as RingWorld}
use Rattle.ring_order_proof.specs.Projection.{IsProjected, ring_part, core_events_of_run}
use Rattle.ring_synchrony_proof.specs.Synchrony.{IsVirtuallySynchronous}

module _ {O A : Type 0} (object : Sequential O) (group : Group) (events : List (Event A)) where
  -- the ring part of a run of nodes, with all outputs of their cores
  abbrev pub ring_part_of : RingWorld A
  ring_part_of = ring_part (run object (world_opening group) events) (core_events_of_run object (world_opening group) events).outs

-- the nodes' cores and frames are those of a run of ring cores whose outputs are virtually synchronous.
-- All who take part in a ring name the same members of it. Each message reported is held under its number, and each one reported
-- as safe is held by each member.
pub record IsSynchronous {O A : Type 0} (object : Sequential O) (group : Group) (events : List (Event A)) : Type 0 where
  pub projected : IsProjected object group events
  pub synchronous : IsVirtuallySynchronous (ring_part_of object group events)
  pub members : NameSameMembers (λ i. ((run object (world_opening group) events).nodes i).core)
  pub held : OutputsAreHeld (ring_part_of object group events)
  pub safe : SafeOutputsAreSafe (ring_part_of object group events)
