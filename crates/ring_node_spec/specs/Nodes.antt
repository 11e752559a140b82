-- A node: its ring core, its epochs, its tickets, the calls done and the answers given; and its log,
-- which these define.
-- Rules: The replicated log 1, 12 to 15, 18 and 20
use Rattle.std.specs.Prelude.{ℕ, ◌+◌, ◌-◌, ◌^◌, min, Bool, true, false, not, ◌&&◌, ◌||◌, ◌==◌, nat_lt, if◌then◌else◌}
use Rattle.std.specs.Prelude.{is_some, List, [], ◌∷◌, take, fold, Option, Some, None}
use Rattle.ring_base.specs.Group.{Group, is_primary}
use Rattle.ring_base.specs.Rings.{same_ring}
use Rattle.ring_base.specs.declared.ring_id.RingId.{RingId}
use Rattle.ring_session.specs.Objects.{Sequential}
use Rattle.ring_core_spec.specs.Payloads.{Call}
use Rattle.ring_session.specs.declared.answer.Answer.{Answer}
use Rattle.ring_core_spec.specs.Joining.{is_operational}
use Rattle.ring_core_spec.specs.State.{Core, opening, halted}
pub use Rattle.ring_core_spec.specs.State.{is_stopped}
use Rattle.ring_log.specs.EpochHistories.{complete_exchange}
use Rattle.ring_log.specs.KnownLog.{KnownLog, known_log_of, known_log_length, retained_log}
use Rattle.ring_log.specs.Logs.{committed_calls}
use Rattle.ring_log.specs.Epochs.{Epoch, history_opening_of}
use Rattle.ring_session.specs.Snapshots.{table_snapshot, restored_table}
use Rattle.ring_session.specs.Table.{Table, opening as table_opening, table_next}
use Rattle.ring_session.specs.TicketEffects.{done_after, table_effects}
use Rattle.ring_session.specs.declared.ticket_answer.TicketAnswer.{TicketAnswer}
use Rattle.ring_session.specs.Tickets.{TicketCall, unanswered_tickets, kept_answers, ticket_answer_in}

-- a node, with its epochs and all that was ever submitted to it, done and answered
pub record Node (A : Type 0) : Type 0 where
  pub group : Group
  pub core : Core A
  pub epochs : List (Epoch A)
  -- all tickets ever given, in order
  pub tickets : List (TicketCall A)
  -- the committed calls that it applied to its sessions, in order; not those of a snapshot that it restored
  pub done : List (Call A)
  -- all answers ever given, in order
  pub answers : List (TicketAnswer A)

-- processor `me` of the group at the opening
abbrev pub node_opening : {A : Type 0} → Group → ℕ → Node A
node_opening group me = record { group = group; core = opening group.count me; epochs = history_opening_of me; tickets = []; done = []; answers = [] }

-- the known log of a node
abbrev pub node_known_log : {A : Type 0} → Node A → KnownLog A
node_known_log n = known_log_of n.group n.epochs

-- the number of places of its log, dropped ones included
abbrev pub node_length : {A : Type 0} → Node A → ℕ
node_length n = known_log_length (node_known_log n)

-- the number of dropped places
abbrev pub node_trimmed : {A : Type 0} → Node A → ℕ
node_trimmed n = (node_known_log n).trimmed

-- the committed places that aren't dropped
abbrev pub node_committed : {A : Type 0} → Node A → List (Call A)
node_committed n = committed_calls (retained_log (node_known_log n))

-- the tickets without an answer
abbrev pub node_pending : {A : Type 0} → Node A → List (TicketCall A)
node_pending n = unanswered_tickets n.done n.tickets

-- the answer to a ticket, if it is one of the last 64 answered
abbrev pub node_reply : {A : Type 0} → Node A → ℕ → Option Answer
node_reply n ticket = ticket_answer_in ticket (kept_answers n.answers)

-- Its session table

module _ {O : Type 0} (object : Sequential O) where
  -- the table that a snapshot restores, or the initial one; in every run there is one
  abbrev pub restored_table_or : Option (Table O) → Table O
  restored_table_or None = table_opening object.initial
  restored_table_or (Some table) = table

  -- the table before the known places: the initial one, or the one restored
  abbrev pub table_before : {A : Type 0} → KnownLog A → Table O
  table_before k = if k.from == 0 then table_opening object.initial else restored_table_or (restored_table object.restored k.snapshot)

  -- the table after the first `places` places
  abbrev pub table_after_places : {A : Type 0} → KnownLog A → ℕ → Table O
  table_after_places k places = fold (table_next object) (table_before k) (take (places - k.from) k.calls)

  -- the snapshot after the first `places` places
  abbrev pub snapshot_at : {A : Type 0} → KnownLog A → ℕ → List ℕ
  snapshot_at k places = table_snapshot object.snapshot_of (table_after_places k places)

  -- the snapshot that a node keeps of the places that it has dropped: the bytes that it restored, if it dropped none since
  abbrev pub snapshot_kept : {A : Type 0} → KnownLog A → List ℕ
  snapshot_kept k = if nat_lt 0 k.from && (k.trimmed == k.from) then k.snapshot else snapshot_at k k.trimmed

  -- the snapshot that a node keeps
  abbrev pub node_snapshot : {A : Type 0} → Node A → List ℕ
  node_snapshot n = snapshot_kept (node_known_log n)

  -- the number of calls that took effect in the first `places` places, at most 2^64 - 1: those of the table before, and those of
  -- the calls since
  abbrev pub effects_at : {A : Type 0} → KnownLog A → ℕ → ℕ
  effects_at k places =
      min (2 ^ 64 - 1) (table_effects (table_before k) + done_after object (table_before k) (take (places - k.from) k.calls))

  -- the restored bytes are a snapshot
  abbrev pub is_restored : {A : Type 0} → KnownLog A → Bool
  is_restored k = (k.from == 0) || is_some (restored_table object.restored k.snapshot)

-- a node that has stopped for good; its log is unchanged
abbrev pub node_stopped : {A : Type 0} → Node A → Node A
node_stopped n = record n { core = halted n.core }

-- The state of a node

-- no exchange is open: the newest ring's is complete, or the ring isn't primary
abbrev pub is_closed : {A : Type 0} → Group → List (Epoch A) → Bool
is_closed group [] = true
is_closed group (s ∷ older) = not (is_primary group s.members) || is_some (complete_exchange group s.members s.heard)

-- the core is Operational in this ring
abbrev pub is_core_running_in : {A : Type 0} → Core A → RingId → Bool
is_core_running_in c ring = is_operational c.state && same_ring c.installed.ring ring

-- there is such a ring, and the core is Operational in it
abbrev pub is_running_ring : {A : Type 0} → Core A → Option RingId → Bool
is_running_ring c None = false
is_running_ring c (Some ring) = is_core_running_in c ring

-- the core is Operational in a primary ring whose exchange the node adopted
abbrev pub runs_adopted : {A : Type 0} → Node A → Bool
runs_adopted n = is_running_ring n.core (node_known_log n).last
