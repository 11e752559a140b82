-- The payloads that a node hands to its core to be sent, epoch by epoch: a Head, the owner's Snaps and Parts, and the
-- pending calls.
-- Rules: The replicated log 2, 7 and 10
use Rattle.std.specs.Prelude.{ℕ, ◌-◌, max, Bool, not, ◌&&◌, ◌==◌, nat_le, if◌then◌else◌, List, [], ◌∷◌, ◌++◌, length, map, filter, drop, Option, Some, None}
use Rattle.ring_base.specs.Group.{Group, is_primary}
use Rattle.ring_base.specs.Processors.{nobody}
use Rattle.ring_base.specs.declared.ring_id.RingId.{RingId}
use Rattle.ring_core_spec.specs.Payloads.{max_snapshot, Call as OneCall, Payload}
use Rattle.ring_core_spec.specs.PayloadVariants.{Call, Head, Part, Snap}
use Rattle.ring_session.specs.Objects.{Sequential}
use Rattle.ring_core_spec.specs.Frames.{Message}
use Rattle.ring_core_spec.specs.State.{Core}
use Rattle.ring_core_spec.specs.declared.out.Out.{Out}
use Rattle.ring_core_spec.specs.declared.out.Out.TheVariants.{Send, Agreed, Safe, Trans, Rest, Regular}
use Rattle.ring_log.specs.declared.wanted.Wanted.{Wanted}
use Rattle.ring_log.specs.Exchanges.{Exchange, exchange_opening, wanted, is_exchange_complete}
use Rattle.ring_log.specs.Parts.{parts_between, pieces_of}
use Rattle.ring_log.specs.Epochs.{Epoch}
use Rattle.ring_log.specs.EpochHistories.{exchange_after_messages}
use Rattle.ring_log.specs.KnownLog.{KnownLog, known_log_of, retained_log, known_log_head}
use Rattle.ring_log.specs.Logs.{Log}
use Rattle.ring_session.specs.Tickets.{TicketCall}
use Rattle.ring_session.specs.TicketsState.{contains_call}
use Rattle.ring_node_spec.specs.EpochHistories.{epochs_after_event}
use Rattle.ring_node_spec.specs.Nodes.{Node, node_known_log, node_pending, snapshot_kept, is_core_running_in}

-- due when a ring is installed: if it is primary, a Head of the log before it
abbrev pub due_at_regular : {A : Type 0} → Group → ℕ → List (Epoch A) → List (Payload A)
due_at_regular group members older = if is_primary group members then Head (known_log_head (known_log_of group older)) ∷ [] else []

-- Due when the last Head is received: the owner's snapshot, if it is wanted, and the Parts of its log. The snapshot is sent only
-- if it is the one that the owner keeps, and only places that aren't dropped are sent; in every run these are the wanted ones

-- each member's Head was received
abbrev pub has_all_heads : {A : Type 0} → Exchange A → Bool
has_all_heads e = e.missing_heads == nobody

-- the wanted places of a log, as Parts
abbrev pub parts_due : {A : Type 0} → Log A → Wanted → List (Payload A)
parts_due log w = map (λ part. Part part) (parts_between log.trimmed log.calls w.from w.to)

-- the snapshot of the first `at` places, of these bytes, as Snaps
abbrev pub snaps_due : {A : Type 0} → ℕ → List ℕ → List (Payload A)
snaps_due at bytes = map (λ snap. Snap snap) (pieces_of at bytes)

-- the log has dropped `at` places, and the bytes of their snapshot aren't too many to be sent
abbrev pub is_snapshot_kept : {A : Type 0} → List ℕ → Log A → ℕ → Bool
is_snapshot_kept bytes log at = (log.trimmed == at) && nat_le (length bytes) max_snapshot

-- due of the owner of the log: the snapshot, if one is wanted, and then the Parts
abbrev pub places_due : {A : Type 0} → List ℕ → Log A → Wanted → Option ℕ → List (Payload A)
places_due bytes log w None = if nat_le log.trimmed w.from then parts_due log w else []
places_due bytes log w (Some at) = if is_snapshot_kept bytes log at then snaps_due at bytes ++ parts_due log w else []

-- due of processor me with these bytes and this log, if it is the owner
abbrev pub owner_due : {A : Type 0} → ℕ → List ℕ → Log A → Option Wanted → List (Payload A)
owner_due me bytes log None = []
owner_due me bytes log (Some w) = if w.owner == me then places_due bytes log w w.snapshot else []

-- due at the message that turns the exchange `old` into `new`, if it is the last Head
abbrev pub due_when_heads_complete : {A : Type 0} → ℕ → List ℕ → Log A → Exchange A → Exchange A → List (Payload A)
due_when_heads_complete me bytes log old new = if has_all_heads new && not (has_all_heads old) then owner_due me bytes log (wanted new) else []

-- Due when the exchange completes: the pending calls that aren't in the base after the committed places, in the order
-- of tickets. The places of a restored snapshot are treated as committed

-- the calls of the tickets whose call isn't in the base; `call_of` is the call of a ticket
abbrev pub calls_not_in : {T A : Type 0} → (T → OneCall A) → List T → List (OneCall A) → List (Payload A)
calls_not_in {T} call_of pending base = map (λ (t : T). Call (call_of t)) (filter (λ (t : T). not (contains_call base (call_of t))) pending)

-- the calls of a node's tickets whose call isn't in the base
abbrev pub calls_due : {A : Type 0} → List (TicketCall A) → List (OneCall A) → List (Payload A)
calls_due {A} = calls_not_in (λ (t : TicketCall A). t.call)

-- the places of a base past those committed before or by restoring
abbrev pub uncommitted_places : {A : Type 0} → ℕ → Log A → List (OneCall A)
uncommitted_places committed log = drop (max committed log.trimmed - log.trimmed) log.calls

-- What the due payloads of a step depend on, besides the epochs: the processor in its group, the rings that run, the pending
-- calls that a base lacks, the length committed before the step, and the bytes of the snapshot that belongs to a known log
pub record DueContext (A : Type 0) : Type 0 where
  pub group : Group
  pub me : ℕ
  pub runs : RingId → Bool
  pub pending_not_in : List (OneCall A) → List (Payload A)
  pub committed : ℕ
  pub snapshot : KnownLog A → List ℕ

-- due at the message that turns the exchange `old` into `new`, if it completes it; `epochs` are those after it
abbrev pub due_when_complete : {A : Type 0} → DueContext A → List (Epoch A) → Exchange A → Exchange A → List (Payload A)
due_when_complete c epochs old new =
    if is_exchange_complete new && not (is_exchange_complete old)
    then c.pending_not_in (uncommitted_places c.committed (retained_log (known_log_of c.group epochs)))
    else []

-- due of the owner at the last Head: the snapshot of its known log, and the log
abbrev pub owner_due_on_heads : {A : Type 0} → DueContext A → KnownLog A → Exchange A → Exchange A → List (Payload A)
owner_due_on_heads c k old new = due_when_heads_complete c.me (c.snapshot k) (retained_log k) old new

-- due at a message of the newest epoch, given the epochs and the exchanges before and after it
abbrev pub due_between : {A : Type 0} → DueContext A → List (Epoch A) → List (Epoch A) → Exchange A → Exchange A → List (Payload A)
due_between c before epochs old new = owner_due_on_heads c (known_log_of c.group before) old new ++ due_when_complete c epochs old new

-- due at a message of this epoch; nothing if its members aren't primary
abbrev pub due_in_epoch : {A : Type 0} → DueContext A → Epoch A → List (Epoch A) → Message A → List (Epoch A) → List (Payload A)
due_in_epoch c s before x epochs =
    if is_primary c.group s.members
    then due_between c before epochs (exchange_after_messages (exchange_opening s.members) s.heard) (exchange_after_messages (exchange_opening s.members) (s.heard ++ x ∷ []))
    else []

-- due at a message of the newest epoch; nothing unless its ring runs
abbrev pub due_on_message : {A : Type 0} → DueContext A → Bool → List (Epoch A) → Message A → List (Epoch A) → List (Payload A)
due_on_message c runs [] x epochs = []
due_on_message c runs (s ∷ older) x epochs = if runs then due_in_epoch c s (s ∷ older) x epochs else []

-- due at an output, given the epochs before it
abbrev pub due_on_output : {A : Type 0} → DueContext A → List (Epoch A) → Out A → List (Payload A)
due_on_output c epochs (Agreed ring k x) = due_on_message c (c.runs ring) epochs x (epochs_after_event epochs (Agreed ring k x))
due_on_output c epochs (Regular ring set) = due_at_regular c.group set epochs
due_on_output c epochs (Send to frame) = []
due_on_output c epochs (Safe ring upto) = []
due_on_output c epochs (Trans old new set) = []
due_on_output c epochs (Rest ring k x) = []

-- due at outputs, in their order
abbrev pub due_on_outputs : {A : Type 0} → DueContext A → List (Epoch A) → List (Out A) → List (Payload A)
due_on_outputs c epochs [] = []
due_on_outputs c epochs (o ∷ outs) = due_on_output c epochs o ++ due_on_outputs c (epochs_after_event epochs o) outs

-- The due payloads of a node. The node is the one before the step, and the core the one after it: payloads are due only in a
-- ring in which that core is Operational

module _ {O : Type 0} (object : Sequential O) where
  -- the context of a node's step: its pending calls, and the snapshot that it keeps
  abbrev pub node_context : {A : Type 0} → Node A → Core A → DueContext A
  node_context n core =
      record {
        group = n.group;
        me = n.core.me;
        runs = is_core_running_in core;
        pending_not_in = calls_due (node_pending n);
        committed = (node_known_log n).committed;
        snapshot = snapshot_kept object;
      }

  -- due at a message of a node's newest epoch; nothing unless the core is Operational in this ring
  abbrev pub due_at_agreed : {A : Type 0} → Node A → Core A → RingId → List (Epoch A) → Message A → List (Epoch A) → List (Payload A)
  due_at_agreed n core ring = due_on_message (node_context n core) (is_core_running_in core ring)

  -- due at an output of a node, given the epochs before it
  abbrev pub due_at_output : {A : Type 0} → Node A → Core A → List (Epoch A) → Out A → List (Payload A)
  due_at_output n core = due_on_output (node_context n core)

  -- due at outputs of a node, in their order
  abbrev pub due_of_outputs : {A : Type 0} → Node A → Core A → List (Epoch A) → List (Out A) → List (Payload A)
  due_of_outputs n core = due_on_outputs (node_context n core)
