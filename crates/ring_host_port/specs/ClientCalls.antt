-- The order and the history of the calls of a group's clients.
-- Rules: Sessions 9 to 11; The book and the threads 15
use Rattle.std.specs.Prelude.{◌≡◌, List}
use Rattle.ring_base.specs.Group.{Group}
use Rattle.ring_object.specs.Operations.{Sequential}
use Rattle.ring_node_spec.specs.Histories.{IsLinearization}
use Rattle.ring_node_spec.specs.Worlds.{order, run, world_opening}
use Rattle.ring_host_port.specs.Books.{IsRun, LineView, events_of, history_of}
use Rattle.ring_host_port.specs.declared.client_calls.ClientCalls.{ClientCalls}

-- These lines are a run of the group, order and history are those of the run, and the order is a linearization of the history.
pub record AreOfLines {A O : Type 0} (object : Sequential O) (group : Group) (lines : List (LineView A)) (calls : ClientCalls A) : Type 0 where
  pub is_run : IsRun object group lines
  pub order : calls.order.items ≡ order (run object (world_opening group) (events_of lines))
  pub history : calls.history.items ≡ history_of lines
  pub explained : IsLinearization object calls.order.items calls.history.items

-- Order and history are those of some run of the group, and the order is a linearization of the history.
abbrev pub AreOfRun : {A O : Type 0} → Sequential O → Group → ClientCalls A → Type 0
AreOfRun {A} object group calls = (lines : List (LineView A)) × AreOfLines object group lines calls
