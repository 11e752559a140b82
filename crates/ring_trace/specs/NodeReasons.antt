-- A single view of a node: the opening, the changes since then, and the reason why a call waits at the node.
-- Formats: The command line
use Rattle.std.specs.Prelude.{◌≡◌, ℕ, Bool, true, false, List, [], ◌∷◌}
use Rattle.ring_base.specs.declared.state.State.{State}
use Rattle.ring_base.specs.declared.state.State.TheVariants.{Gather, Commit, Recovery, Operational, Stopped}
use Rattle.ring_base.specs.Group.{Group, is_primary}
use Rattle.ring_base.specs.Processors.{only}
use Rattle.ring_trace_words.specs.Shares.{vote_share}
use Rattle.ring_trace_words.specs.declared.node_change.Change.{Change}
use Rattle.ring_trace_words.specs.declared.node_change.Change.TheVariants as change
use Rattle.ring_trace_words.specs.declared.wait_reason.WaitReason.{WaitReason}
use Rattle.ring_trace_words.specs.declared.wait_reason.WaitReason.TheVariants as wait
use Rattle.ring_trace.specs.NodeViews.{ring_change}
use Rattle.ring_trace.specs.declared.node_view.NodeView.{NodeView}

-- The view is that of a node at its opening: it is in Gather, alone in ring 0, and has committed and dropped nothing.
pub record IsOpening (node : ℕ) (view : NodeView) : Type 0 where
  pub state : view.state ≡ Gather
  pub ring : view.ring ≡ record { seq = 0; rep = node }
  pub members : view.members ≡ only node
  pub committed : view.committed ≡ 0
  pub trimmed : view.trimmed ≡ 0

-- The state of a node as a change since its opening; the state operational is reported by its ring.
abbrev pub state_change : Group → NodeView → State → Change
state_change nodes view Gather = change.State Gather
state_change nodes view Commit = change.State Commit
state_change nodes view Recovery = change.State Recovery
state_change nodes view Operational = ring_change nodes view
state_change nodes view Stopped = change.State Stopped

-- The changes of a node since its opening, in this order: its state or its ring, its committed length, its trimmed
-- length.
abbrev pub changes_since_opening : Group → NodeView → List Change
changes_since_opening nodes view = state_change nodes view view.state ∷ change.Committed view.committed ∷ change.Trimmed view.trimmed ∷ []

-- The node is operational, in a ring that is primary or not.
abbrev pub IsOperational : Group → Bool → NodeView → Type 0
IsOperational nodes is_in_primary view = (view.state ≡ Operational) × (is_primary nodes view.members ≡ is_in_primary)

-- The first reason that applies why a call waits at a node: it has stopped, it is not operational, its ring is not
-- primary, it has not sent the call, or the call is not known to be safe.
abbrev pub IsReason : Group → NodeView → Bool → WaitReason → Type 0
IsReason nodes view is_sent wait.Stopped = view.state ≡ Stopped
IsReason nodes view is_sent (wait.State state) = (view.state ≡ state) × (state ≡ Stopped → ⊥) × (state ≡ Operational → ⊥)
IsReason nodes view is_sent (wait.Minority members share) =
    IsOperational nodes false view × (members ≡ view.members) × (share ≡ vote_share nodes view.members)
IsReason nodes view is_sent wait.NotSent = IsOperational nodes true view × (is_sent ≡ false)
IsReason nodes view is_sent wait.NotSafe = IsOperational nodes true view × (is_sent ≡ true)
