-- A node that follows no order: it has dropped the place of a call, and its snapshot is the opening one.
use Rattle.std.specs.Prelude.{[], ◌∷◌}
use Rattle.ring_base.specs.Group.{Group}
use Rattle.ring_payload.specs.declared.call.Call.{Call}
use Rattle.ring_log.specs.Epochs.{history_opening_of, epochs_with_trim}
use Rattle.ring_node_spec.specs.Nodes.{Node, node_opening}

-- a group of one, with one vote
abbrev pub one_member : Group
one_member = record { count = 1; votes = 1 ∷ [] }

-- the first call of a client
abbrev pub first_call : {A : Type 0} → Call A
first_call = record { client = 7; number = 1; op = [] }

-- the node at the opening, but that it has dropped one place
abbrev pub dropped_one : {A : Type 0} → Node A
dropped_one = record (node_opening one_member 1) { epochs = epochs_with_trim 1 (history_opening_of 1) }
