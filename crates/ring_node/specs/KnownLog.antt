-- The values that the code of a node stores, and the node that they stand for.
-- Rules: Rings and states 3 and 12; The replicated log 1 and 18
use Rattle.std.specs.Prelude.{◌≡◌, Bool, true, false, List}
use Rattle.ring_core_spec.specs.Commits.{Configuration}
use Rattle.ring_object.specs.Operations.{Sequential}
use Rattle.ring_core_spec.specs.State.{Core, halted}
use Rattle.ring_core_spec.specs.Stepping.{ring_step}
use Rattle.ring_core_spec.specs.declared.input.Input.{Input}
use Rattle.ring_core_spec.specs.declared.out.Out.{Out}
use Rattle.ring_replica.specs.NodeSpec.{Node, is_stopped}
use Rattle.ring_replica.specs.Replicas.{Replica, ReplicaStepResult, IsBetweenSteps, replica_step, running_of}
use Rattle.ring_replica.specs.Marks.{IsMarked}

-- the core of a running node, or the halted one of a stopped node
abbrev pub core_view : {A : Type 0} → Bool → Core A → Core A → Core A
core_view false core ended = core
core_view true core ended = halted ended

-- the node that contracts see, given its core, its replica, and the core from before the node stopped
abbrev pub node_view : {A : Type 0} → Core A → Replica A → Core A → Node A
node_view core replica ended =
    record {
      group = replica.group;
      core = core_view replica.stopped core ended;
      epochs = replica.epochs;
      tickets = replica.tickets;
      done = replica.done;
      answers = replica.answers;
    }

-- the facts of a running node: all steps are finished, the core and the replica are of one processor, and the newest epoch has no
-- higher mark than the core
pub record IsRunningNode {A : Type 0} (core : Core A) (replica : Replica A) : Type 0 where
  pub done : IsBetweenSteps replica
  pub me : replica.me ≡ core.me
  pub going : is_stopped core.state ≡ false
  pub marked : IsMarked core replica.epochs

-- the facts of a node; a stopped node stores its last installed ring with its members
pub record IsNode {A : Type 0} (core : Core A) (replica : Replica A) (last : Configuration) (ended : Core A) : Type 0 where
  pub runs : replica.stopped ≡ false → IsRunningNode core replica
  pub left : replica.stopped ≡ true → last ≡ ended.installed

-- the replica's step on the outputs of a core's step; `core` is the core after it
abbrev pub followed_by : {O A : Type 0} → Sequential O → Core A → Replica A → List (Out A) → ReplicaStepResult A
followed_by object core replica outs = replica_step object (running_of core) replica outs

-- the replica's step after a step of the core on this input
abbrev pub stepped_by : {O A : Type 0} → Sequential O → Core A → Replica A → Input A → ReplicaStepResult A
stepped_by object core replica input = followed_by object (ring_step core input).core replica (ring_step core input).outs
