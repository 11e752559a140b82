-- The changes of a node between two views of it.
-- Formats: The command line
use Rattle.std.specs.Prelude.{Bool, true, false, not, ◌==◌, ◌&&◌, if◌then◌else◌, List, [], ◌∷◌, ◌++◌, is_some, unwrap_or}
use Rattle.ring_base.specs.declared.state.State.{State}
use Rattle.ring_base.specs.declared.state.State.TheVariants.{Gather, Commit, Recovery, Operational, Stopped}
use Rattle.ring_base.specs.Group.{Group}
use Rattle.ring_base.specs.Rings.{same_ring}
use Rattle.ring_trace_words.specs.declared.node_change.Change.{Change}
use Rattle.ring_trace_words.specs.declared.node_change.Change.TheVariants as change
use Rattle.ring_trace_words.specs.Shares.{vote_share}
use Rattle.ring_trace.specs.declared.node_view.NodeView.{NodeView}

-- Whether the two states are the same.
abbrev pub same_state : State → State → Bool
same_state Gather Gather = true
same_state Commit Commit = true
same_state Recovery Recovery = true
same_state Operational Operational = true
same_state Stopped Stopped = true
same_state _ _ = false

-- Whether the node installed another ring.
abbrev pub is_new_ring : NodeView → NodeView → Bool
is_new_ring before now = not (same_ring now.ring before.ring)

-- Whether the node's state changed, other than by a new ring: a node that installs one is operational.
abbrev pub is_new_state : NodeView → NodeView → Bool
is_new_state before now =
    not (same_state now.state before.state) && not (is_new_ring before now && same_state now.state Operational)

-- The change that the node installed its ring, with its members and their votes.
abbrev pub ring_change : Group → NodeView → Change
ring_change nodes now = change.Ring now.ring now.members (vote_share nodes now.members)

-- The change that the node's step restored a snapshot.
abbrev pub restored_change : NodeView → Change
restored_change now = change.Restored (unwrap_or now.restored 0)

-- Whether the node dropped first places: more than it had dropped before, or more than the snapshot replaces that its
-- step restored.
abbrev pub is_trimmed : NodeView → NodeView → Bool
is_trimmed before now = not (now.trimmed == unwrap_or now.restored before.trimmed)

-- The change if it is to be reported, or none.
abbrev pub change_if : Bool → Change → List Change
change_if is_told one = if is_told then one ∷ [] else []

-- The changes of a node between two views, in this order: its ring, its state, its committed length, the snapshot that
-- it restored, its trimmed length.
abbrev pub changes_of : Group → NodeView → NodeView → List Change
changes_of nodes before now =
    change_if (is_new_ring before now) (ring_change nodes now)
    ++ change_if (is_new_state before now) (change.State now.state)
    ++ change_if (not (now.committed == before.committed)) (change.Committed now.committed)
    ++ change_if (is_some now.restored) (restored_change now)
    ++ change_if (is_trimmed before now) (change.Trimmed now.trimmed)
