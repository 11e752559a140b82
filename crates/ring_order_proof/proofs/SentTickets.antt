-- Each call that a node hands over is one of its tickets', and each ticket's call was issued.
use Rattle.std.proofs.Common.{ℕ, ◌==◌, Bool, true, false, List, [], ◌∷◌, ◌++◌, map, Option, Some, None, if◌then◌else◌}
use Rattle.std.specs.Prelude.{not, nat_le, ◌&&◌}
use Rattle.std.specs.List.{AllByRecursion as Each}
use Rattle.std.proofs.lemmas.Bool.{cond_both}
use Rattle.ring_base.specs.Group.{is_primary}
use Rattle.ring_base.specs.declared.ring_id.RingId.{RingId}
use Rattle.ring_base.proofs.Each.{each-weaker, each-append, each-push, each-map, each-filter}
use Rattle.ring_object.specs.Operations.{Sequential}
use Rattle.ring_payload.specs.declared.call.Call.{Call as OneCall}
use Rattle.ring_payload.specs.declared.calls.Part.{Part as OnePart}
use Rattle.ring_payload.specs.declared.snap.Snap.{Snap as OneSnap}
use Rattle.ring_payload.specs.declared.content.Payload.{Payload}
use Rattle.ring_payload.specs.declared.content.Payload.TheVariants.{Call, Head, Part, Pack, Snap, Wrapped, End}
use Rattle.ring_wire.specs.declared.message.Message.{Message}
use Rattle.ring_core_spec.specs.State.{Core, StepResult}
use Rattle.ring_core_spec.specs.Stepping.{ring_step}
use Rattle.ring_core_spec.specs.declared.input.Input.TheVariants.{Frame as FrameInput, Timeout as TimeInput}
use Rattle.ring_core_spec.specs.declared.out.Out.{Out}
use Rattle.ring_core_spec.specs.declared.out.Out.TheVariants.{Send, Agreed, Safe, Trans, Rest, Regular}
use Rattle.ring_log.specs.declared.wanted.Wanted.{Wanted}
use Rattle.ring_log.specs.Exchanges.{Exchange, exchange_opening, wanted, is_exchange_complete}
use Rattle.ring_log.specs.Logs.{Log, committed_calls}
use Rattle.ring_log.specs.Parts.{parts_between, pieces_of}
use Rattle.ring_log.specs.Epochs.{Epoch}
use Rattle.ring_log.specs.EpochHistories.{exchange_after_messages}
use Rattle.ring_session.specs.Tickets.{TicketCall, unanswered_tickets}
use Rattle.ring_node_spec.specs.EpochHistories.{epochs_after_event, epochs_after}
use Rattle.ring_node_spec.specs.Nodes.{Node, node_known_log, node_pending, node_stopped, snapshot_kept, is_closed, is_restored, is_core_running_in, runs_adopted}
use Rattle.ring_node_spec.specs.DueSends.{has_all_heads, uncommitted_places, parts_due, snaps_due, is_snapshot_kept, places_due, owner_due, due_when_heads_complete, calls_due}
use Rattle.ring_node_spec.specs.DueSends.{node_context, due_when_complete, due_between, due_in_epoch, due_at_agreed, due_at_output, due_of_outputs}
use Rattle.ring_node_spec.specs.declared.input.Input.{Input}
use Rattle.ring_node_spec.specs.declared.input.Input.TheVariants.{Frame, Noise, Timeout, Stop}
use Rattle.ring_node_spec.specs.Stepping.{NodeStepResult, with_dropped, newly_committed, drops, did, settled, node_after_outputs, after_core, node_step, due_by_submit, node_after_submit}
use Rattle.ring_log_proof.specs.EpochEvents.{IsKnownCall, Handed as HandedEvent, Agreed as AgreedEvent, Safe as SafeEvent, Regular as RegularEvent}
use Rattle.ring_log_proof.specs.EpochEvents.{Dropped as DroppedEvent}
use Rattle.ring_log_proof.proofs.RunEpochs.{LifeHands, event-known}
use Rattle.ring_log.specs.KnownLog.{KnownLog, known_log_of, retained_log, known_log_head, is_known_log_sound}

module _ {A : Type 0} (Known : OneCall A → Type 0) where
  -- of a node: its tickets' calls are known, and the calls that it handed over
  pub record NodeKnows (n : Node A) : Type 0 where
    pub tickets : Each (λ (t : TicketCall A). Known t.call) n.tickets
    pub sent : LifeHands Known n.epochs

  abbrev AreKnown : List (Payload A) → Type 0
  AreKnown payloads = Each (IsKnownCall Known) payloads

  epochs_after_event-known : (epochs : List (Epoch A)) (o : Out A) → LifeHands Known epochs → LifeHands Known (epochs_after_event epochs o)
  epochs_after_event-known epochs (Agreed ring k x) h = event-known Known epochs (AgreedEvent x) tt h
  epochs_after_event-known epochs (Safe ring upto) h = event-known Known epochs (SafeEvent upto) tt h
  epochs_after_event-known epochs (Regular ring set) h = event-known Known epochs (RegularEvent ring set) tt h
  epochs_after_event-known epochs (Send to frame) h = h
  epochs_after_event-known epochs (Trans old new set) h = h
  epochs_after_event-known epochs (Rest ring k x) h = h

  pub through-known : (epochs : List (Epoch A)) (outs : List (Out A)) → LifeHands Known epochs → LifeHands Known (epochs_after epochs outs)
  through-known epochs [] h = h
  through-known epochs (o ∷ outs) h = through-known (epochs_after_event epochs o) outs (epochs_after_event-known epochs o h)

  -- Due payloads

  none-known : (b : Bool) (payloads : List (Payload A)) → AreKnown payloads → AreKnown (if b then payloads else [])
  none-known b payloads h = cond_both b payloads [] AreKnown (λ t. h) (λ f. tt)

  parts-are : (parts : List (OnePart A)) → AreKnown (map (λ part. Part part) parts)
  parts-are [] = tt
  parts-are (part ∷ parts) = (tt, parts-are parts)

  snaps-are : (snaps : List (OneSnap A)) → AreKnown (map (λ snap. Snap snap) snaps)
  snaps-are [] = tt
  snaps-are (snap ∷ snaps) = (tt, snaps-are snaps)

  parts-known : (log : Log A) (w : Wanted) → AreKnown (parts_due log w)
  parts-known log w = parts-are (parts_between log.trimmed log.calls w.from w.to)

  places-known : (bytes : List ℕ) (log : Log A) (w : Wanted) (o : Option ℕ) → AreKnown (places_due bytes log w o)
  places-known bytes log w None = none-known (nat_le log.trimmed w.from) (parts_due log w) (parts-known log w)
  places-known bytes log w (Some at) =
      none-known (is_snapshot_kept bytes log at) (snaps_due at bytes ++ parts_due log w)
      (each-append (IsKnownCall Known) (snaps_due at bytes) (parts_due log w) (snaps-are (pieces_of at bytes)) (parts-known log w))

  owner-known : (me : ℕ) (bytes : List ℕ) (log : Log A) (o : Option Wanted) → AreKnown (owner_due me bytes log o)
  owner-known me bytes log None = tt
  owner-known me bytes log (Some w) = none-known (w.owner == me) (places_due bytes log w w.snapshot) (places-known bytes log w w.snapshot)

  calls-known : (tickets : List (TicketCall A)) (done calls : List (OneCall A)) → Each (λ (t : TicketCall A). Known t.call) tickets
      → AreKnown (calls_due (unanswered_tickets done tickets) calls)
  calls-known tickets done calls h =
      each-map (IsKnownCall Known) (λ (t : TicketCall A). Call t.call) _ (each-filter _ _ (unanswered_tickets done tickets) (each-filter _ _ tickets h))

  pub stopped-known : (n : Node A) → NodeKnows n → NodeKnows (node_stopped n)
  stopped-known n k = record { tickets = k.tickets; sent = k.sent }

  module _ {O : Type 0} (object : Sequential O) where
    between-known : (n : Node A) (core : Core A) (before epochs : List (Epoch A)) (old new : Exchange A) → Each (λ (t : TicketCall A). Known t.call) n.tickets
        → AreKnown (due_between (node_context object n core) before epochs old new)
    between-known n core before epochs old new h =
        let k = known_log_of n.group before in
        let bytes = snapshot_kept object k in
        let past = uncommitted_places (node_known_log n).committed (retained_log (known_log_of n.group epochs)) in
        each-append (IsKnownCall Known) (due_when_heads_complete n.core.me bytes (retained_log k) old new) (due_when_complete (node_context object n core) epochs old new)
        (none-known (has_all_heads new && not (has_all_heads old)) (owner_due n.core.me bytes (retained_log k) (wanted new))
        (owner-known n.core.me bytes (retained_log k) (wanted new)))
        (none-known (is_exchange_complete new && not (is_exchange_complete old)) (calls_due (node_pending n) past) (calls-known n.tickets n.done past h))

    agreed-known : (n : Node A) (core : Core A) (ring : RingId) (before : List (Epoch A)) (x : Message A) (epochs : List (Epoch A))
        → Each (λ (t : TicketCall A). Known t.call) n.tickets
        → AreKnown (due_at_agreed object n core ring before x epochs)
    agreed-known n core ring [] x epochs h = tt
    agreed-known n core ring (s ∷ older) x epochs h =
        let old = exchange_after_messages (exchange_opening s.members) s.heard in
        let new = exchange_after_messages (exchange_opening s.members) (s.heard ++ x ∷ []) in
        let c = node_context object n core in
        none-known (is_core_running_in core ring) (due_in_epoch c s (s ∷ older) x epochs)
        (none-known (is_primary n.group s.members) (due_between c (s ∷ older) epochs old new) (between-known n core (s ∷ older) epochs old new h))

    due-known : (n : Node A) (core : Core A) (epochs : List (Epoch A)) (o : Out A) → Each (λ (t : TicketCall A). Known t.call) n.tickets
        → AreKnown (due_at_output object n core epochs o)
    due-known n core epochs (Agreed ring k x) h = agreed-known n core ring epochs x (epochs_after_event epochs (Agreed ring k x)) h
    due-known n core epochs (Regular ring set) h = none-known (is_primary n.group set) (Head (known_log_head (known_log_of n.group epochs)) ∷ []) (tt, tt)
    due-known n core epochs (Send to frame) h = tt
    due-known n core epochs (Safe ring upto) h = tt
    due-known n core epochs (Trans old new set) h = tt
    due-known n core epochs (Rest ring k x) h = tt

    due_sends-known : (n : Node A) (core : Core A) (epochs : List (Epoch A)) (outs : List (Out A)) → Each (λ (t : TicketCall A). Known t.call) n.tickets
        → AreKnown (due_of_outputs object n core epochs outs)
    due_sends-known n core epochs [] h = tt
    due_sends-known n core epochs (o ∷ outs) h =
        each-append (IsKnownCall Known) (due_at_output object n core epochs o) (due_of_outputs object n core (epochs_after_event epochs o) outs) (due-known n core epochs o h)
        (due_sends-known n core (epochs_after_event epochs o) outs h)

    -- Steps

    node_after_outputs-known : (n : Node A) (core : Core A) (outs : List (Out A)) → NodeKnows n
        → NodeKnows (node_after_outputs n core (epochs_after n.epochs outs) (due_of_outputs object n core n.epochs outs))
    node_after_outputs-known n core outs k = record {
      tickets = k.tickets;
      sent = event-known Known (epochs_after n.epochs outs) (HandedEvent (due_of_outputs object n core n.epochs outs)) (due_sends-known n core n.epochs outs k.tickets)
          (through-known n.epochs outs k.sent);
    }

    settled-known : (b : Bool) (old new : Node A) (outs : List (Out A)) (k : KnownLog A) → NodeKnows old → NodeKnows new
        → NodeKnows (settled object b old new outs k).node
    settled-known false old new outs k h g = stopped-known old h
    settled-known true old new outs k h g =
        let s = did object old new outs k (newly_committed (node_known_log old) k) in
        cond_both (drops object (is_closed old.group new.epochs) k)
        (record s { node = with_dropped k.committed s.node; dropped = committed_calls (retained_log k) }) s (λ (x : NodeStepResult A). NodeKnows x.node)
        (λ t. record { tickets = g.tickets; sent = event-known Known new.epochs (DroppedEvent k.committed) tt g.sent })
        (λ e. record { tickets = g.tickets; sent = g.sent })

    core-known : (n : Node A) (s : StepResult A) → NodeKnows n → NodeKnows (after_core object n s).node
    core-known n s h =
        let epochs = epochs_after n.epochs s.outs in
        settled-known (is_known_log_sound n.group epochs && is_restored object (known_log_of n.group epochs)) n
        (node_after_outputs n s.core epochs (due_of_outputs object n s.core n.epochs s.outs)) s.outs (known_log_of n.group epochs) h (node_after_outputs-known n s.core s.outs h)

    pub step-known : (n : Node A) (input : Input A) → NodeKnows n → NodeKnows (node_step object n input).node
    step-known n (Frame frame) k = core-known n (ring_step n.core (FrameInput frame)) k
    step-known n (Timeout kind) k = core-known n (ring_step n.core (TimeInput kind)) k
    step-known n Noise k = k
    step-known n Stop k = stopped-known n k

  -- Submits

  pub submitted-known : (n : Node A) (c : OneCall A) → Known c → NodeKnows n → NodeKnows (node_after_submit n c)
  submitted-known n c h k = record {
    tickets = each-push (λ (t : TicketCall A). Known t.call) n.tickets _ k.tickets h;
    sent = event-known Known n.epochs (HandedEvent (due_by_submit n c)) (none-known (runs_adopted n) (Call c ∷ []) (h, tt)) k.sent;
  }

-- what is known stays known
pub knows-more : {A : Type 0} (Known More : OneCall A → Type 0) → ((c : OneCall A) → Known c → More c) → (n : Node A) → NodeKnows Known n → NodeKnows More n
knows-more {A} Known More f n k = record {
  tickets = each-weaker _ _ (λ (t : TicketCall A) h. f t.call h) n.tickets k.tickets;
  sent = λ s older i. each-weaker (IsKnownCall Known) (IsKnownCall More) more s.sent (k.sent s older i);
}
  where
    more : (payload : Payload A) → IsKnownCall Known payload → IsKnownCall More payload
    more (Call call) h = f call h
    more (Part part) h = tt
    more (Head head) h = tt
    more (Pack pack) h = tt
    more (Snap snap) h = tt
    more (Wrapped old) h = tt
    more End h = tt
