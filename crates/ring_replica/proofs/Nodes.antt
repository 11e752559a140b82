-- The due payloads and the step of a node, by its replica.
use Rattle.std.proofs.Common.{◌≡◌, ℕ, ◌+◌, Bool, true, false, not, ◌&&◌, List, [], ◌∷◌, ◌++◌, length, map, Option, Some, None, is_none, inl, refl}
use Rattle.std.proofs.Common.{ap, sym, ◌∙◌, if◌then◌else◌}
use Rattle.std.specs.List.{filter}
use Rattle.std.specs.Prelude.{nat_le, filter_map}
use Rattle.std.proofs.lemmas.Bool.{and_parts, cond-false}
use Rattle.ring_base.specs.Group.{is_primary}
use Rattle.ring_base.specs.Numbers.{max_number}
use Rattle.ring_base.specs.Rings.{same_ring}
use Rattle.ring_base.specs.declared.fault.Fault.TheVariants.{PendingFull, Stopped as StoppedFault}
use Rattle.ring_base.specs.declared.ring_id.RingId.{RingId}
use Rattle.ring_object.specs.Operations.{Sequential}
use Rattle.ring_payload.specs.declared.call.Call.{Call as OneCall}
use Rattle.ring_payload.specs.declared.content.Payload.{Payload}
use Rattle.ring_payload.specs.declared.content.Payload.TheVariants.{Call}
use Rattle.ring_core_spec.specs.Frames.{Message}
use Rattle.ring_core_spec.specs.Joining.{is_operational}
use Rattle.ring_core_spec.specs.State.{Core, StepResult}
use Rattle.ring_core_spec.specs.declared.out.Out.{Out}
use Rattle.ring_core_spec.specs.declared.out.Out.TheVariants.{Send, Agreed, Safe, Trans, Rest, Regular}
use Rattle.ring_log.specs.Exchanges.{Exchange, exchange_opening, is_exchange_complete}
use Rattle.ring_log.specs.KnownLog.{KnownLog, IsKnownLog, known_log_of, retained_log, is_known_log_sound}
use Rattle.ring_log.specs.Logs.{committed_calls}
use Rattle.ring_log.specs.Epochs.{Epoch, epochs_with_sends, epochs_with_trim}
use Rattle.ring_log.specs.EpochHistories.{exchange_after_messages}
use Rattle.ring_session.specs.Tickets.{TicketCall, answering_place, unanswered_tickets, answers_after}
use Rattle.ring_session.specs.declared.ticket_answer.TicketAnswer.{TicketAnswer}
use Rattle.ring_session.specs.declared.pending_ticket.PendingTicket.{PendingTicket}
use Rattle.ring_session.specs.TicketsState.{pending_from, contains_call}
use Rattle.ring_replication.specs.NodeSpec.{epochs_after_event, epochs_after, Node, node_known_log, node_pending, is_stopped, is_closed, is_restored, snapshot_kept}
use Rattle.ring_replication.specs.NodeSpec.{DueContext, node_context, is_core_running_in, is_running_ring, calls_due, due_when_heads_complete, uncommitted_places, due_when_complete, owner_due_on_heads, due_in_epoch}
use Rattle.ring_replication.specs.NodeSpec.{due_at_agreed, due_at_output, due_of_outputs, handed_over, node_after_outputs, NodeStepResult, send_of, drops, newly_committed, table_since}
use Rattle.ring_replication.specs.NodeSpec.{settled, after_core, node_after_submit, submit_fault}
use Rattle.ring_replication.specs.Replications.{StepContext, bytes_at, is_running, calls_to_resend, due_context, due_sends_on_message, due_sends_at, due_sends_by}
use Rattle.ring_replication.specs.Replications.{handed_if, rises_at, rises, HasSoundEpochs}
use Rattle.ring_replica.specs.Replicas.{replica_of, running_of, moment_of, is_running_some, submit_refusal, replica_with_ticket, replica_settled}
use Rattle.ring_replica.specs.Replicas.{replica_step, node_of_core_and_replica, node_with_ticket}
use Rattle.ring_replication.proofs.IsKnownLogExtended.{known-self}
use Rattle.ring_replica.proofs.SteadyEpochs.{KnowsOn, knows-trans, steady-known, steady-epochs_after_event, sound-through, bytes-same}

-- the same ring runs
is_core_running_in-is : {A : Type 0} (c : Core A) (ring : RingId) → is_core_running_in c ring ≡ is_running (running_of c) ring
is_core_running_in-is c ring = by (is_operational c.state)
  where
    by : (b : Bool) → b && same_ring c.installed.ring ring ≡ is_running (if b then Some c.installed.ring else None) ring
    by true = refl
    by false = refl

-- the pending calls are those of the unanswered tickets
calls-step : {A : Type 0} (places : List (OneCall A)) (t : TicketCall A) (i : ℕ) (b : Bool) (ts : List (TicketCall A)) (ps : List (PendingTicket A))
    → map (λ (u : TicketCall A). Call u.call) (filter (λ (u : TicketCall A). not (contains_call places u.call)) ts) ≡ calls_to_resend ps places
    → map (λ (u : TicketCall A). Call u.call) (filter (λ (u : TicketCall A). not (contains_call places u.call)) (if b then t ∷ ts else ts))
    ≡ calls_to_resend (if b then record { ticket = i; call = t.call } ∷ ps else ps) places
calls-step places t i false ts ps e = e
calls-step {A} places t i true ts ps e = by (not (contains_call places t.call)) e
  where
    by : (b : Bool)
        → map (λ (u : TicketCall A). Call u.call) (filter (λ (u : TicketCall A). not (contains_call places u.call)) ts) ≡ calls_to_resend ps places
        → map (λ (u : TicketCall A). Call u.call) (if b then t ∷ filter (λ (u : TicketCall A). not (contains_call places u.call))
        ts else filter (λ (u : TicketCall A). not (contains_call places u.call)) ts)
        ≡ map (λ (p : PendingTicket A). Call p.call) (if b then record { ticket = i; call = t.call } ∷ filter
        (λ (p : PendingTicket A). not (contains_call places p.call)) ps else filter
        (λ (p : PendingTicket A). not (contains_call places p.call)) ps)
    by true e = ap (λ w. Call t.call ∷ w) e
    by false e = e

calls-from : {A : Type 0} (done places : List (OneCall A)) (i : ℕ) (ts : List (TicketCall A))
    → map (λ (u : TicketCall A). Call u.call) (filter (λ (u : TicketCall A). not (contains_call places u.call)) (unanswered_tickets done ts))
    ≡ calls_to_resend (pending_from done i ts) places
calls-from done places i [] = refl
calls-from done places i (t ∷ ts) =
    calls-step places t i (is_none (answering_place done t)) (unanswered_tickets done ts)
    (pending_from done (i + 1) ts) (calls-from done places (i + 1) ts)

module _ {O A : Type 0} (object : Sequential O) (n : Node A) (core : Core A) where
  abbrev m : StepContext A
  m = moment_of object (running_of core) (replica_of n)

  abbrev of_node : DueContext A
  of_node = node_context object n core

  abbrev of_step : DueContext A
  of_step = due_context m

  calls-due : (places : List (OneCall A)) → calls_due (node_pending n) places ≡ calls_to_resend m.pending places
  calls-due places = calls-from n.done places 0 n.tickets

  whole-due : (epochs : List (Epoch A)) (old new : Exchange A) → due_when_complete of_node epochs old new ≡ due_when_complete of_step epochs old new
  whole-due epochs old new =
      ap (λ l. if is_exchange_complete new && not (is_exchange_complete old) then l else []) (calls-due (uncommitted_places (node_known_log n).committed (retained_log (known_log_of n.group epochs))))

  epoch-due : (s : Epoch A) (before : List (Epoch A)) (x : Message A) (epochs : List (Epoch A))
      → snapshot_kept object (known_log_of n.group before) ≡ bytes_at m (known_log_of n.group before)
      → due_in_epoch of_node s before x epochs ≡ due_in_epoch of_step s before x epochs
  epoch-due s before x epochs same =
      let old = exchange_after_messages (exchange_opening s.members) s.heard in
      let new = exchange_after_messages (exchange_opening s.members) (s.heard ++ x ∷ []) in
      let k = known_log_of n.group before in
      ap (λ l. if is_primary n.group s.members then owner_due_on_heads of_node k old new ++ l else []) (whole-due epochs old new)
      ∙ ap (λ bs. if is_primary n.group s.members then due_when_heads_complete n.core.me bs (retained_log k) old new ++ due_when_complete of_step epochs old new else []) same

  agreed-due : (ring : RingId) (epochs : List (Epoch A)) (x : Message A) (after : List (Epoch A))
      → snapshot_kept object (known_log_of n.group epochs) ≡ bytes_at m (known_log_of n.group epochs)
      → due_at_agreed object n core ring epochs x after ≡ due_sends_on_message m (is_running (running_of core) ring) epochs x after
  agreed-due ring [] x after same = refl
  agreed-due ring (s ∷ older) x after same =
      ap (λ b. if b then due_in_epoch of_node s (s ∷ older) x after else []) (is_core_running_in-is core ring)
      ∙ ap (λ l. if is_running (running_of core) ring then l else []) (epoch-due s (s ∷ older) x after same)

  out-due : (epochs : List (Epoch A)) (o : Out A) → snapshot_kept object (known_log_of n.group epochs) ≡ bytes_at m (known_log_of n.group epochs)
      → due_at_output object n core epochs o ≡ due_sends_at m epochs o
  out-due epochs (Agreed ring k x) same = agreed-due ring epochs x (epochs_after_event epochs (Agreed ring k x)) same
  out-due epochs (Regular ring set) same = refl
  out-due epochs (Send to frame) same = refl
  out-due epochs (Safe ring upto) same = refl
  out-due epochs (Trans old new set) same = refl
  out-due epochs (Rest ring k x) same = refl

  due_sends-from : (epochs : List (Epoch A)) (outs : List (Out A)) → IsKnownLog (node_known_log n) → HasSoundEpochs n.group epochs → KnowsOn (node_known_log n) (known_log_of n.group epochs)
      → is_known_log_sound n.group (epochs_after epochs outs) ≡ true → rises epochs outs ≡ true → due_of_outputs object n core epochs outs ≡ due_sends_by m epochs outs
  due_sends-from epochs [] known steady on t r = refl
  due_sends-from epochs (o ∷ outs) known steady on t r =
      let risen = and_parts (rises_at epochs o) (rises (epochs_after_event epochs o) outs) r in
      let more = steady-epochs_after_event n.group epochs o steady (sound-through n.group (epochs_after_event epochs o) outs t) risen.0 in
      ap (λ l. l ++ due_of_outputs object n core (epochs_after_event epochs o) outs) (out-due epochs o (bytes-same object m (node_known_log n) (known_log_of n.group epochs) refl refl known on))
      ∙ ap (λ l. due_sends_at m epochs o ++ l)
      (due_sends-from (epochs_after_event epochs o) outs known more.steady (knows-trans (node_known_log n) (known_log_of n.group epochs) (known_log_of n.group (epochs_after_event epochs o)) on more.knows) t
      risen.1)

  pub due_sends-are : (outs : List (Out A)) → HasSoundEpochs n.group n.epochs → is_known_log_sound n.group (epochs_after n.epochs outs) ≡ true → rises n.epochs outs ≡ true
      → due_of_outputs object n core n.epochs outs ≡ due_sends_by m n.epochs outs
  due_sends-are outs steady t r = due_sends-from n.epochs outs (steady-known steady) steady (inl (known-self (node_known_log n))) t r

module _ {O A : Type 0} (object : Sequential O) (n : Node A) (s : StepResult A) where
  abbrev epochs : List (Epoch A)
  epochs = epochs_after n.epochs s.outs

  abbrev k : KnownLog A
  k = known_log_of n.group epochs

  step-by : (b : Bool) (due : List (Payload A))
      → settled object b n (node_after_outputs n s.core epochs due) s.outs k ≡ node_of_core_and_replica n s.core (replica_settled object b (replica_of n) s.outs epochs due k)
  step-by false due = refl
  step-by true due = by (drops object (is_closed n.group (epochs_with_sends due epochs)) k)
    where
      more : List (OneCall A)
      more = newly_committed (node_known_log n) k

      answers : List (TicketAnswer A)
      answers = answers_after object (table_since object (node_known_log n) k) n.tickets n.done more

      done : List (Epoch A) → List (OneCall A) → NodeStepResult A
      done l gone = record {
        node = record n { core = handed_over s.core due; epochs = l; done = n.done ++ more; answers = n.answers ++ answers };
        sends = filter_map send_of s.outs;
        answers = answers;
        committed = more;
        dropped = gone;
      }

      by : (b : Bool)
          → (if b then done (epochs_with_trim k.committed (epochs_with_sends due epochs)) (committed_calls (retained_log k)) else done (epochs_with_sends due epochs) [])
          ≡ done (if b then epochs_with_trim k.committed (epochs_with_sends due epochs) else epochs_with_sends due epochs) (if b then committed_calls (retained_log k) else [])
      by true = refl
      by false = refl

  pub step-is : HasSoundEpochs n.group n.epochs → rises n.epochs s.outs ≡ true
      → after_core object n s ≡ node_of_core_and_replica n s.core (replica_step object (running_of s.core) (replica_of n) s.outs)
  step-is steady r =
      by (is_known_log_sound n.group epochs) refl
      ∙ step-by (is_known_log_sound n.group epochs && is_restored object k) (due_sends_by (moment_of object (running_of s.core) (replica_of n)) n.epochs s.outs)
    where
      own : Bool → List (Payload A) → NodeStepResult A
      own b due = settled object (b && is_restored object k) n (node_after_outputs n s.core epochs due) s.outs k

      by : (b : Bool) → is_known_log_sound n.group epochs ≡ b
          → own (is_known_log_sound n.group epochs) (due_of_outputs object n s.core n.epochs s.outs)
          ≡ own (is_known_log_sound n.group epochs) (due_sends_by (moment_of object (running_of s.core) (replica_of n)) n.epochs s.outs)
      by false f =
          ap (λ b. own b (due_of_outputs object n s.core n.epochs s.outs)) f
          ∙ sym (ap (λ b. own b (due_sends_by (moment_of object (running_of s.core) (replica_of n)) n.epochs s.outs)) f)
      by true t = ap (own (is_known_log_sound n.group epochs)) (due_sends-are object n s.core s.outs steady t r)

pub refused-is : {A : Type 0} (n : Node A) → is_stopped n.core.state ≡ false → submit_fault n ≡ submit_refusal (replica_of n)
refused-is n e = cond-false (is_stopped n.core.state) (Some StoppedFault)
    (if nat_le 64 (length (node_pending n)) then Some PendingFull else if nat_le max_number (length n.tickets) then Some PendingFull else None) e

adopted-is : {A : Type 0} (c : Core A) (last : Option RingId) → is_running_ring c last ≡ is_running_some (running_of c) last
adopted-is c None = refl
adopted-is c (Some ring) = is_core_running_in-is c ring

pub given-is : {A : Type 0} (n : Node A) (c : OneCall A) → node_after_submit n c ≡ node_with_ticket n c (replica_with_ticket (running_of n.core) (replica_of n) c)
given-is {A} n c =
    ap (λ b. record n {
      core = handed_over n.core (handed_if b c);
      epochs = epochs_with_sends (handed_if b c) n.epochs;
      tickets = n.tickets ++ record { call = c; since = length n.done } ∷ [];
    }) (adopted-is n.core (node_known_log n).last)
