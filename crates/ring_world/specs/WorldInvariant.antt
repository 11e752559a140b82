-- The fields of a world's code, and the world that they represent.
-- Rules: The book and the threads 1 to 8
use Rattle.std.specs.Prelude.{◌≡◌, ℕ, suc, ◌<◌, ◌≤◌, List, length, Some, slice_get}
use Rattle.std.specs.List.{AllByRecursion}
use Rattle.ring_base.specs.Group.{Group}
use Rattle.ring_object.specs.Operations.{Sequential}
use Rattle.ring_payload.specs.declared.call.Call.{Call}
use Rattle.ring_core_spec.specs.State.{Transmission}
use Rattle.ring_node_spec.specs.Nodes.{Node}
use Rattle.ring_node_spec.specs.declared.event.Event.{Event}
use Rattle.ring_node_spec.specs.declared.item.Item.{Item}
use Rattle.ring_node_spec.specs.declared.client_report.Told.{Told}
use Rattle.ring_node_spec.specs.Worlds.{World, world_opening, run}
use Rattle.ring_order_proof.specs.Linear.{IsEventCallWithinLimits}
use Rattle.ring_world.specs.WorldView.{told_of_events}
use Rattle.ring_world.specs.SpareCalls.{SpareCalls, Holds}

-- the second copies are those of the node's waiting tickets
abbrev pub KeepsCopies : {A : Type 0} → Node A → SpareCalls A → Type 0
KeepsCopies n s = Holds s.calls n.tickets n.done

-- the fields represent the world: nodes, second copies, frames, history, the reports of its events, and the longest committed
-- log
pub record IsWorldKept {A : Type 0} (w : World A) (nodes : List (Node A)) (spares : List (SpareCalls A))
    (frames : List (Transmission A)) (history : List (Item A)) (told : List (Told A)) (longest : List (Call A)) : Type 0 where
  pub nodes_are : (i : ℕ) → i < w.group.count → slice_get nodes i ≡ Some (w.nodes (suc i))
  pub many : length nodes ≡ w.group.count
  pub copies : (i : ℕ) → i < w.group.count → (s : SpareCalls A) × (slice_get spares i ≡ Some s) × KeepsCopies (w.nodes (suc i)) s
  pub copies_many : length spares ≡ w.group.count
  pub frames_are : frames ≡ w.frames
  pub history_is : history ≡ w.history
  pub told_is : told_of_events told ≡ w.told
  pub longest_is : longest ≡ w.longest

-- the fields represent the world after these events, whose calls are within the limits
pub record IsWorld {O A : Type 0} (object : Sequential O) (group : Group) (events : List (Event A))
    (nodes : List (Node A)) (spares : List (SpareCalls A)) (frames : List (Transmission A))
    (history : List (Item A)) (told : List (Told A)) (longest : List (Call A)) : Type 0 where
  pub kept : IsWorldKept (run object (world_opening group) events) nodes spares frames history told longest
  pub same : (run object (world_opening group) events).group ≡ group
  pub fit : AllByRecursion IsEventCallWithinLimits events
  pub few : group.count ≤ 16
