-- A replica: all of a node except its core; and the effect on it of a step of the core, a submit and a stop.
-- Rules: The replicated log 8 to 15, 18 and 20
use Rattle.std.specs.Prelude.{◌≡◌, ℕ, ◌-◌, ◌<◌, ◌≤◌, ◌⊎◌, max, Bool, true, false, nat_le, nat_lt, ◌&&◌, if◌then◌else◌, List, [], ◌∷◌, ◌++◌, length}
use Rattle.std.specs.Prelude.{drop, filter_map, unwrap_or, is_some, is_none, ◌||◌, Option, Some, None}
use Rattle.ring_base.specs.Prefixes.{IsListPrefix}
use Rattle.ring_base.specs.Group.{Group}
use Rattle.ring_base.specs.Numbers.{max_number}
use Rattle.ring_base.specs.declared.fault.Fault.{Fault}
use Rattle.ring_base.specs.declared.fault.Fault.TheVariants.{PendingFull, Stopped}
use Rattle.ring_base.specs.declared.ring_id.RingId.{RingId}
use Rattle.ring_object.specs.Operations.{Sequential}
use Rattle.ring_payload.specs.declared.call.Call.{Call as OneCall}
use Rattle.ring_payload.specs.declared.content.Payload.{Payload}
use Rattle.ring_session.specs.Table.{Table}
use Rattle.ring_session.specs.declared.answer.Answer.{Answer}
use Rattle.ring_core_spec.specs.Joining.{is_operational}
use Rattle.ring_core_spec.specs.State.{Core, OutgoingFrame}
use Rattle.ring_core_spec.specs.declared.out.Out.{Out}
use Rattle.ring_payload.specs.Limits.{max_snapshot}
use Rattle.ring_session.specs.Snapshots.{table_snapshot, restored_table}
use Rattle.ring_log.specs.Logs.{Log, committed_calls, is_due_to_trim}
use Rattle.ring_log.specs.Epochs.{Epoch, history_opening_of, epochs_with_sends, epochs_with_trim}
use Rattle.ring_log.specs.KnownLog.{KnownLog, IsKnownLog, known_log_of, known_log_length, retained_log, is_known_log_sound}
use Rattle.ring_session.specs.declared.ticket_answer.TicketAnswer.{TicketAnswer}
use Rattle.ring_session.specs.TicketsState.{Tickets, AreTickets, pending_from}
use Rattle.ring_session.specs.Tickets.{TicketCall, unanswered_tickets, answers_after, kept_answers, ticket_answer_in}
use Rattle.ring_replication.specs.Replications.{HeldLog, Replication, StepContext, is_running, handed_if, due_sends_by}
use Rattle.ring_replication.specs.NodeSpec.{epochs_after, Node, node_stopped, is_closed, restored_table_or, table_after_places, effects_at, snapshot_kept, is_restored}
use Rattle.ring_replication.specs.NodeSpec.{send_of, handed_over, NodeStepResult, empty_step, drops, newly_committed, table_since}

-- a replica, as contracts see it
pub record Replica (A : Type 0) : Type 0 where
  pub group : Group
  pub me : ℕ
  -- its epochs up to the last finished step, and up to the unfinished step
  pub epochs : List (Epoch A)
  pub epochs_in_step : List (Epoch A)
  -- all tickets ever given, in order
  pub tickets : List (TicketCall A)
  -- the committed calls that it applied to its sessions, and all answers that it gave, in order, up to the last finished step
  pub done : List (OneCall A)
  pub answers : List (TicketAnswer A)
  -- the calls that the unfinished step commits, and those of the places that it drops
  pub doing : List (OneCall A)
  pub leaving : List (OneCall A)
  pub stopped : Bool

-- the part of a replica that only contracts see
pub record ReplicaGhostState (A : Type 0) : Type 0 where
  pub epochs : List (Epoch A)
  pub tickets : List (TicketCall A)
  pub done : List (OneCall A)
  pub answers : List (TicketAnswer A)

-- the ghost state of processor `me` at the opening
abbrev pub ghost_state_opening : {A : Type 0} → ℕ → ReplicaGhostState A
ghost_state_opening me = record { epochs = history_opening_of me; tickets = []; done = []; answers = [] }

-- the ghost state after a finished step, which did these calls and gave these answers
abbrev pub ghost_state_after_step : {A : Type 0} → ReplicaGhostState A → List (Epoch A) → List (OneCall A) → List (TicketAnswer A) → ReplicaGhostState A
ghost_state_after_step ghost_state epochs more answers = record ghost_state { epochs = epochs; done = ghost_state.done ++ more; answers = ghost_state.answers ++ answers }

-- the ghost state after a call was given a ticket
abbrev pub ghost_state_after_ticket : {A : Type 0} → ReplicaGhostState A → OneCall A → Bool → ReplicaGhostState A
ghost_state_after_ticket ghost_state c runs =
    record ghost_state { epochs = epochs_with_sends (handed_if runs c) ghost_state.epochs; tickets = ghost_state.tickets ++ record { call = c; since = length ghost_state.done } ∷ [] }

-- processor `me` of the group at the opening
abbrev pub replica_opening : {A : Type 0} → Group → ℕ → Replica A
replica_opening group me =
    record { group = group; me = me; epochs = history_opening_of me; epochs_in_step = history_opening_of me; tickets = []; done = []; answers = []; doing = []; leaving = []; stopped = false }

-- all steps are finished
pub record IsBetweenSteps {A : Type 0} (r : Replica A) : Type 0 where
  pub epochs : r.epochs_in_step ≡ r.epochs
  pub doing : r.doing ≡ []
  pub leaving : r.leaving ≡ []

-- the known log of a replica
abbrev pub replica_known_log : {A : Type 0} → Replica A → KnownLog A
replica_known_log r = known_log_of r.group r.epochs

-- the number of places of its log, dropped ones included
abbrev pub replica_length : {A : Type 0} → Replica A → ℕ
replica_length r = known_log_length (replica_known_log r)

-- the number of dropped places
abbrev pub replica_trimmed : {A : Type 0} → Replica A → ℕ
replica_trimmed r = (replica_known_log r).trimmed

-- the committed places that aren't dropped
abbrev pub replica_committed : {A : Type 0} → Replica A → List (OneCall A)
replica_committed r = committed_calls (retained_log (replica_known_log r))

-- the replica stopped for good, as it was before the unfinished step
abbrev pub replica_stopped : {A : Type 0} → Replica A → Replica A
replica_stopped r = record r { epochs_in_step = r.epochs; doing = []; leaving = []; stopped = true }

-- the answer to a ticket, if it is one of the last 64 answered
abbrev pub replica_reply : {A : Type 0} → Replica A → ℕ → Option Answer
replica_reply r ticket = ticket_answer_in ticket (kept_answers r.answers)

-- A submit

-- the fault of a refused submit, apart from `Memory`: the replica has stopped, 64 tickets are unanswered, or 2^62 were given
abbrev pub submit_refusal : {A : Type 0} → Replica A → Option Fault
submit_refusal r =
    if r.stopped then Some Stopped
    else if nat_le 64 (length (unanswered_tickets r.done r.tickets)) then Some PendingFull
    else if nat_le max_number (length r.tickets) then Some PendingFull
    else None

-- there is such a ring, and it is the running one
abbrev pub is_running_some : Option RingId → Option RingId → Bool
is_running_some running None = false
is_running_some running (Some ring) = is_running running ring

-- the running ring is the newest adopted one
abbrev pub has_adopted_running : {A : Type 0} → Option RingId → Replica A → Bool
has_adopted_running running r = is_running_some running (replica_known_log r).last

-- due at a submit: the call, if the running ring is adopted; otherwise it stays pending
abbrev pub due_by_call : {A : Type 0} → Option RingId → Replica A → OneCall A → List (Payload A)
due_by_call running r c = handed_if (has_adopted_running running r) c

-- the replica after a submit: the call has the next ticket
abbrev pub replica_with_ticket : {A : Type 0} → Option RingId → Replica A → OneCall A → Replica A
replica_with_ticket running r c =
    let epochs = epochs_with_sends (due_by_call running r c) r.epochs in
    record r { epochs = epochs; epochs_in_step = epochs; tickets = r.tickets ++ record { call = c; since = length r.done } ∷ [] }

-- A step

-- the number of places of the snapshot that was restored between two known logs; none if none was restored
abbrev pub restored_since : {A : Type 0} → KnownLog A → KnownLog A → Option ℕ
restored_since old now = if nat_lt old.from now.from then Some now.from else None

-- the result of a core's step: the replica, the frames sent, the payloads to be handed to the core, the answers, and the number
-- of places restored
pub record ReplicaStepResult (A : Type 0) : Type 0 where
  pub replica : Replica A
  pub sends : List (OutgoingFrame A)
  pub due : List (Payload A)
  pub answers : List (TicketAnswer A)
  pub restored : Option ℕ

-- the result of a step that changes nothing and has no output
abbrev pub replica_still : {A : Type 0} → Replica A → ReplicaStepResult A
replica_still r = record { replica = r; sends = []; due = []; answers = []; restored = None }

module _ {O : Type 0} (object : Sequential O) where
  -- the context of a step: the replica before it, and the running ring after the core's step
  abbrev pub moment_of : {A : Type 0} → Option RingId → Replica A → StepContext A
  moment_of running r =
      record {
        group = r.group;
        me = r.me;
        running = running;
        pending = pending_from r.done 0 r.tickets;
        committed = (replica_known_log r).committed;
        trimmed = (replica_known_log r).trimmed;
        snapshot = snapshot_kept object (replica_known_log r);
      }

  -- the epochs at the end of a step: the committed places are dropped if they are due
  abbrev pub life_ended : {A : Type 0} → Bool → KnownLog A → List (Epoch A) → List (Epoch A)
  life_ended closed k epochs = if drops object closed k then epochs_with_trim k.committed epochs else epochs

  -- the calls of the places dropped then
  abbrev pub leaving_at : {A : Type 0} → Bool → KnownLog A → List (OneCall A)
  leaving_at closed k = if drops object closed k then committed_calls (retained_log k) else []

  -- a replica with an unfinished step, which extends its epochs so, hands over the due payloads and does these calls
  abbrev pub replica_doing : {A : Type 0} → Replica A → List (Epoch A) → KnownLog A → List (Payload A) → List (OneCall A) → Replica A
  replica_doing r epochs k due more =
      let closed = is_closed r.group (epochs_with_sends due epochs) in
      record r { epochs_in_step = life_ended closed k (epochs_with_sends due epochs); doing = more; leaving = leaving_at closed k }

  -- the result of such a step
  abbrev pub replica_moved : {A : Type 0} → Replica A → List (Out A) → List (Epoch A) → List (Payload A) → KnownLog A → ReplicaStepResult A
  replica_moved r outs epochs due k =
      record {
        replica = replica_doing r epochs k due (newly_committed (replica_known_log r) k);
        sends = filter_map send_of outs;
        due = due;
        answers = answers_after object (table_since object (replica_known_log r) k) r.tickets r.done (newly_committed (replica_known_log r) k);
        restored = restored_since (replica_known_log r) k;
      }

  -- the result of the step, if the known log after it is sound; otherwise the replica is stopped, without outputs
  abbrev pub replica_settled : {A : Type 0} → Bool → Replica A → List (Out A) → List (Epoch A) → List (Payload A) → KnownLog A → ReplicaStepResult A
  replica_settled false r outs epochs due k = record { replica = replica_stopped r; sends = []; due = []; answers = []; restored = None }
  replica_settled true r outs epochs due k = replica_moved r outs epochs due k

  -- the result of a core's step with these outputs, after which this ring runs
  abbrev pub replica_step : {A : Type 0} → Option RingId → Replica A → List (Out A) → ReplicaStepResult A
  replica_step running r outs =
      let epochs = epochs_after r.epochs outs in
      let k = known_log_of r.group epochs in
      replica_settled (is_known_log_sound r.group epochs && is_restored object k) r outs epochs (due_sends_by (moment_of running r) r.epochs outs) k

  -- a core's step without outputs changes nothing and has no result, whichever ring runs
  abbrev pub IsStepIdle : {A : Type 0} → Replica A → Type 0
  IsStepIdle r = (running : Option RingId) → replica_step running r [] ≡ replica_still r

-- the replica after the step is finished, with the answers that it gave
abbrev pub replica_done : {A : Type 0} → Replica A → List (TicketAnswer A) → Replica A
replica_done r answers = record r { epochs = r.epochs_in_step; done = r.done ++ r.doing; answers = r.answers ++ answers; doing = []; leaving = [] }

-- the replica after a whole step
abbrev pub replica_ended : {A : Type 0} → ReplicaStepResult A → Replica A
replica_ended s = replica_done s.replica s.answers

-- Of a node and its replica

-- the ring in which a core is Operational, if it is
abbrev pub running_of : {A : Type 0} → Core A → Option RingId
running_of c = if is_operational c.state then Some c.installed.ring else None

-- the replica of a node
abbrev pub replica_of : {A : Type 0} → Node A → Replica A
replica_of n =
    record {
      group = n.group;
      me = n.core.me;
      epochs = n.epochs;
      epochs_in_step = n.epochs;
      tickets = n.tickets;
      done = n.done;
      answers = n.answers;
      doing = [];
      leaving = [];
      stopped = false;
    }

-- the step of a node, given its core after the step and the result of its replica's step. The due payloads are handed to the
-- core. If the replica stopped, the node stops without outputs.
abbrev pub node_unless : {A : Type 0} → Bool → Node A → Core A → ReplicaStepResult A → NodeStepResult A
node_unless true n core r = empty_step (node_stopped n)
node_unless false n core r =
    record {
      node = record n { core = handed_over core r.due; epochs = r.replica.epochs_in_step; done = n.done ++ r.replica.doing; answers = n.answers ++ r.answers };
      sends = r.sends;
      answers = r.answers;
      committed = r.replica.doing;
      dropped = r.replica.leaving;
    }

-- the step of a node, by whether its replica stopped
abbrev pub node_of_core_and_replica : {A : Type 0} → Node A → Core A → ReplicaStepResult A → NodeStepResult A
node_of_core_and_replica n core r = node_unless r.replica.stopped n core r

-- a node after a submit, given its replica after it
abbrev pub node_with_ticket : {A : Type 0} → Node A → OneCall A → Replica A → Node A
node_with_ticket n c r = record n { core = handed_over n.core (due_by_call (running_of n.core) (replica_of n) c); epochs = r.epochs; tickets = r.tickets }

-- The values that the code stores

-- the epochs up to the unfinished step; of a stopped replica, up to the last finished one
abbrev pub epochs_in_step_of : {A : Type 0} → Replication A → Bool → ReplicaGhostState A → List (Epoch A)
epochs_in_step_of replication true ghost_state = ghost_state.epochs
epochs_in_step_of replication false ghost_state = replication.epochs

-- the log that has the places committed now, those that this step drops included
abbrev pub current_log : {A : Type 0} → HeldLog A → Option (Log A) → Log A
current_log held leaving = unwrap_or leaving held.log

-- the log that has the places committed at the end of the last finished step
abbrev pub log_before_step : {A : Type 0} → HeldLog A → Option (Log A) → Log A
log_before_step held leaving = unwrap_or held.before (current_log held leaving)

-- the calls of a log's committed places after the first `first` and after the dropped ones
abbrev pub newly_committed_calls : {A : Type 0} → ℕ → Log A → List (OneCall A)
newly_committed_calls first log = drop (max first log.trimmed - log.trimmed) (committed_calls log)

-- the bytes restored in this step, if any, are a snapshot
abbrev pub is_table_held : {O A : Type 0} → Sequential O → HeldLog A → Bool
is_table_held object held = is_none held.before || is_some (restored_table object.restored held.snapshot)

-- the session table: the one restored in this step, if any, otherwise the one given
abbrev pub table_held : {O A : Type 0} → Sequential O → HeldLog A → Table O → Table O
table_held object held table = if is_some held.before then restored_table_or object (restored_table object.restored held.snapshot) else table

-- the snapshot of a log's committed places, given the session table after them, if they are due to be dropped
abbrev pub snapshot_if_due : {O A : Type 0} → Sequential O → Bool → Log A → Table O → Option (List ℕ)
snapshot_if_due object closed log table =
    let bytes = table_snapshot object.snapshot_of table in
    if closed && is_due_to_trim log && nat_le (length bytes) max_snapshot then Some bytes else None

-- the calls that the unfinished step commits; none of a stopped replica
abbrev pub unfinished_calls_of : {A : Type 0} → Replication A → Option (Log A) → ℕ → Bool → List (OneCall A)
unfinished_calls_of replication leaving first true = []
unfinished_calls_of replication leaving first false = newly_committed_calls first (current_log replication.held leaving)

-- the calls of the log of the places to be dropped, if there is one
abbrev pub calls_leaving : {A : Type 0} → Option (Log A) → List (OneCall A)
calls_leaving None = []
calls_leaving (Some log) = log.calls

-- the calls of the places that the unfinished step drops; none of a stopped replica
abbrev pub leaving_of : {A : Type 0} → Option (Log A) → Bool → List (OneCall A)
leaving_of leaving true = []
leaving_of leaving false = calls_leaving leaving

-- the replica, given its stored values: its replication, the log of the places to be dropped, the committed length at the end of
-- its last step, whether it stopped, and its ghost state
abbrev pub replica_view : {A : Type 0} → Replication A → Option (Log A) → ℕ → Bool → ReplicaGhostState A → Replica A
replica_view replication leaving first stopped ghost_state =
    record {
      group = replication.group;
      me = replication.me;
      epochs = ghost_state.epochs;
      epochs_in_step = epochs_in_step_of replication stopped ghost_state;
      tickets = ghost_state.tickets;
      done = ghost_state.done;
      answers = ghost_state.answers;
      doing = unfinished_calls_of replication leaving first stopped;
      leaving = leaving_of leaving stopped;
      stopped = stopped;
    }

-- the facts of a running replica: its epochs are sound, the sessions are those after all committed places, the stored
-- snapshot is that of the dropped places, and the restored bytes are a snapshot
pub record IsRunningReplica {O A : Type 0} (object : Sequential O) (replication : Replication A) (table : Table O) : Type 0 where
  pub consistent : replication.consistent ≡ true
  pub applied : table ≡ table_after_places object (known_log_of replication.group replication.epochs) (known_log_of replication.group replication.epochs).committed
  pub snapshot : 1 ≤ (known_log_of replication.group replication.epochs).trimmed → replication.held.snapshot ≡ snapshot_kept object (known_log_of replication.group replication.epochs)
  pub restored : is_restored object (known_log_of replication.group replication.epochs) ≡ true

-- nothing was restored since the last step and no places are to be dropped, or more places are dropped now than at the end of
-- that step
abbrev pub IsIdle : {A : Type 0} → KnownLog A → KnownLog A → HeldLog A → Option (Log A) → Type 0
IsIdle k now held leaving = ((held.before ≡ None) × (leaving ≡ None)) ⊎ (k.trimmed < now.trimmed)

-- what a replica reports of its epochs, stopped or not: its log's length, committed length and trimmed length
pub record IsReplica {O A : Type 0} (object : Sequential O) (replication : Replication A) (table : Table O)
    (tickets : Tickets A) (leaving : Option (Log A)) (places first gone : ℕ) (stopped : Bool) (ghost_state : ReplicaGhostState A) : Type 0 where
  pub logged : places ≡ known_log_length (known_log_of replication.group ghost_state.epochs)
  pub committed : first ≡ (known_log_of replication.group ghost_state.epochs).committed
  pub trimmed : gone ≡ (known_log_of replication.group ghost_state.epochs).trimmed
  pub known : IsKnownLog (known_log_of replication.group ghost_state.epochs)
  pub front : IsListPrefix (committed_calls (retained_log (known_log_of replication.group ghost_state.epochs))) (committed_calls (log_before_step replication.held leaving))
  pub answers : AreTickets ghost_state.tickets ghost_state.done ghost_state.answers tickets
  -- between steps no restore and no drop is left unreported
  pub idle : stopped ≡ false → IsIdle (known_log_of replication.group ghost_state.epochs) (known_log_of replication.group replication.epochs) replication.held leaving
  pub runs : stopped ≡ false → IsRunningReplica object replication table

-- a replica also stores the number of committed calls that took effect: by its ghost state, and by its replication
pub record IsCounted {O A : Type 0} (object : Sequential O) (replication : Replication A) (table : Table O)
    (tickets : Tickets A) (leaving : Option (Log A)) (places first gone effects effects_in_step : ℕ) (stopped : Bool) (ghost_state : ReplicaGhostState A) : Type 0 where
  pub kept : IsReplica object replication table tickets leaving places first gone stopped ghost_state
  pub order : effects ≡ effects_at object (known_log_of replication.group ghost_state.epochs) (known_log_of replication.group ghost_state.epochs).committed
  pub epochs_in_step : stopped ≡ false → effects_in_step ≡ effects_at object (known_log_of replication.group replication.epochs) (known_log_of replication.group replication.epochs).committed
