-- A node that takes records, and its output for a step, for a query of its status and for one of its counts.
-- Rules: Nodes that records drive 1, 3, 7 and 8
-- Formats: Records
use Rattle.std.specs.Prelude.{ℕ, Bool, true, false, not, ◌&&◌, ◌==◌, nat_le, List, [], ◌∷◌, ◌++◌, flat_map, length, Option, Some, None, is_some}
use Rattle.std.specs.Option.{option_map}
use Rattle.ring_base.specs.Group.{Group, is_primary}
use Rattle.ring_base.specs.declared.ring_id.RingId.{RingId}
use Rattle.ring_payload.specs.declared.call.Call.{Call}
use Rattle.ring_session.specs.TicketsState.{pending_from}
use Rattle.ring_session.specs.declared.ticket_answer.TicketAnswer.{TicketAnswer}
use Rattle.ring_core_spec.specs.Joining.{is_operational}
use Rattle.ring_core_spec.specs.State.{OutgoingFrame}
use Rattle.ring_node_spec.specs.Nodes.{Node, node_opening, node_known_log, node_length, node_trimmed}
use Rattle.ring_node_spec.specs.Stepping.{NodeStepResult}
use Rattle.ring_node.specs.Restores.{node_restored}
use Rattle.ring_node_spec.specs.declared.input.Input.{Input}
use Rattle.ring_timers.specs.declared.periods.Periods.{Periods}
use Rattle.ring_timers.specs.Timers.{TimersView}
use Rattle.ring_clock.specs.Clocks.{ClockView, clock_opening, next_time_of}
use Rattle.ring_clock.specs.StepOutcomes.{is_token_or_commit_token, has_sent_frame, installs}
use Rattle.ring_counts.specs.Counts.{no_counts, count_numbers}
use Rattle.ring_counts.specs.declared.node_counts.NodeCounts.{NodeCounts}
use Rattle.ring_counts.specs.declared.node_counts.NodeGauges.{NodeGauges}
use Rattle.ring_records.specs.NodeRecords.{frame_record, answers_text, restored_text, all_committed_text, status_record, counts_record, members_record, end_record, token_outcome_of}
use Rattle.ring_records.specs.declared.membership.Membership.{Membership}
use Rattle.ring_records.specs.declared.timed_end.TimedEnd.{TimedEnd}
use Rattle.ring_records.specs.declared.token_outcome.TokenOutcome.{TokenOutcome}
use Rattle.ring_records.specs.declared.token_outcome.TokenOutcome.TheVariants.{NoToken, Taken, Ignored}

-- A node that takes records: its group, the node, its clock, and the counts of its steps.
pub record RecordNodeView (A : Type 0) : Type 0 where
  pub group : Group
  pub node : Node A
  pub clock : ClockView
  pub counts : NodeCounts

-- Processor `me` of the group at its opening, with a clock of these periods to which no time was brought, and nothing
-- counted.
abbrev pub record_node_opening : {A : Type 0} → Group → ℕ → Periods → RecordNodeView A
record_node_opening group me periods = record { group = group; node = node_opening group me; clock = clock_opening periods; counts = no_counts }

-- the records of frames with their receivers, in order
abbrev pub sends_text : {A : Type 0} → List (OutgoingFrame A) → List ℕ
sends_text {A} sends = flat_map (λ (s : OutgoingFrame A). frame_record s.to s.frame) sends

-- the outputs of a node's step: its frames, its answers, the number of restored places, the newly committed calls
abbrev pub outs_text : {A : Type 0} → Node A → NodeStepResult A → List ℕ
outs_text old s = sends_text s.sends ++ answers_text s.answers ++ restored_text (node_restored old s.node) ++ all_committed_text s.committed

-- the outcome of a token, from the input and the frames sent at it
abbrev pub token_fate : {A : Type 0} → Input A → List (OutgoingFrame A) → TokenOutcome
token_fate i sends = token_outcome_of (is_token_or_commit_token i) (has_sent_frame sends)

-- a step gave these outputs and left the node idle: one frame at most and nothing else, the ring installed, and all of the log
-- committed
abbrev pub is_idle : {A : Type 0} → Node A → List (OutgoingFrame A) → List (TicketAnswer A) → Option ℕ → List (Call A) → Bool → Bool
is_idle n sends answers restored committed installed =
    nat_le (length sends) 1 && (length answers == 0) && not (is_some restored) && (length committed == 0) && not installed
    && is_operational n.core.state && (node_length n == (node_known_log n).committed)

-- whether a token brought anything, from its outcome, the node after the step, and the step's outputs
abbrev pub has_brought : {A : Type 0} → TokenOutcome → Node A → List (OutgoingFrame A) → List (TicketAnswer A) → Option ℕ → List (Call A) → Bool → Bool
has_brought NoToken n sends answers restored committed installed = false
has_brought Taken n sends answers restored committed installed = not (is_idle n sends answers restored committed installed)
has_brought Ignored n sends answers restored committed installed = false

-- what a node with a clock adds to the end of an input's output: nothing before the first time
abbrev pub timed_end_of : {A : Type 0} → RecordNodeView A → Bool → Option TimedEnd
timed_end_of r brought = option_map (λ (next : ℕ). record { has_progressed = brought; next_time = next }) (next_time_of r.clock)

-- the end of an input's output: the node's state, the token's outcome, and whether the token brought anything
abbrev pub end_text : {A : Type 0} → RecordNodeView A → TokenOutcome → Bool → List ℕ
end_text r token brought = end_record r.node.core.state token (timed_end_of r brought)

-- the members of the last installed ring
abbrev pub membership_of : {A : Type 0} → RecordNodeView A → Membership
membership_of r = record { members = r.node.core.installed.members; is_primary = is_primary r.group r.node.core.installed.members }

-- the same, as a node with a clock tells them: nothing before the first time
abbrev pub told_membership : {A : Type 0} → RecordNodeView A → Option Membership
told_membership r = option_map (λ (timers : TimersView). membership_of r) r.clock.timers

-- the record of the ring if a step installed it and its members are told
abbrev pub members_text : Bool → RingId → Option Membership → List ℕ
members_text false ring members = []
members_text true ring None = []
members_text true ring (Some members) = members_record ring members

-- the record of the ring that a step between these two states installed, if it installed one
abbrev pub installed_text : {A : Type 0} → RecordNodeView A → RecordNodeView A → List ℕ
installed_text old new = members_text (installs old.node.core new.node.core) new.node.core.installed.ring (told_membership new)

-- the status of a node
abbrev pub status_text : {A : Type 0} → RecordNodeView A → List ℕ
status_text r =
    status_record r.node.core.state r.node.core.installed.ring (node_known_log r.node).committed (node_length r.node) (node_trimmed r.node) (told_membership r)

-- What is read of a node beside its counts: the calls that wait, the committed places and the dropped ones.
abbrev pub gauges_of : {A : Type 0} → Node A → NodeGauges
gauges_of n =
    record { waiting = length (pending_from n.done 0 n.tickets); committed = (node_known_log n).committed; dropped = node_trimmed n }

-- The counts of a node.
abbrev pub counts_text : {A : Type 0} → RecordNodeView A → List ℕ
counts_text r = counts_record (count_numbers r.counts (gauges_of r.node))
