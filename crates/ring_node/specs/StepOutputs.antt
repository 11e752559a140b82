-- The outputs and the result of a step, as one fact: of a core with its replica, and of a node.
-- Rules: The replicated log 18
use Rattle.std.specs.Prelude.{◌≡◌, List, [], if◌then◌else◌}
use Rattle.ring_core_spec.specs.State.{Core, OutgoingFrame}
use Rattle.ring_replica.specs.NodeSpec.{Node, NodeStepResult, handed_over}
use Rattle.ring_replica.specs.Replicas.{Replica, ReplicaStepResult, replica_ended}
use Rattle.ring_node.specs.Restores.{node_restored}
use Rattle.ring_node.specs.declared.outs.Outs.{Outs}

-- the replica's step with these frames, which are sent unless the replica stopped
abbrev pub step_with_frames : {A : Type 0} → List (OutgoingFrame A) → ReplicaStepResult A → ReplicaStepResult A
step_with_frames sends s = record s { sends = if s.replica.stopped then [] else sends }

-- the outputs are those of the replica's step, the due payloads are handed to the core, and the step is finished
pub record IsReplicaStepResult {A : Type 0} (step : ReplicaStepResult A) (before after : Core A) (now : Replica A) (outs : Outs A) : Type 0 where
  pub sends : outs.sends.items ≡ step.sends
  pub answers : outs.answers.items ≡ step.answers
  pub committed : outs.committed.items ≡ step.replica.doing
  pub dropped : outs.dropped.items ≡ step.replica.leaving
  pub restored : outs.restored ≡ step.restored
  pub core : after ≡ handed_over before step.due
  pub replica : now ≡ replica_ended step

-- the outputs and the node are those of the node's step
pub record IsNodeStepResult {A : Type 0} (old : Node A) (step : NodeStepResult A) (now : Node A) (outs : Outs A) : Type 0 where
  pub sends : outs.sends.items ≡ step.sends
  pub answers : outs.answers.items ≡ step.answers
  pub committed : outs.committed.items ≡ step.committed
  pub dropped : outs.dropped.items ≡ step.dropped
  pub restored : outs.restored ≡ node_restored old step.node
  pub node : now ≡ step.node
