-- The session table as a value, and the table after a call.
-- Rules: Sessions 2 and 3
use Rattle.std.specs.Prelude.{ℕ, ◌+◌, ◌≤◌, ◌==◌, ◌&&◌, ◌||◌, nat_lt, Bool, List, [], length, Option, Some, None, is_some, fold, All, if◌then◌else◌}
use Rattle.std.specs.BTreeMap.{insert_entry, is_at}
use Rattle.std.specs.Map.{lookup, values_of}
use Rattle.std.specs.Ordering.{nat_cmp}
use Rattle.std.specs.Str.{bytes_eq}
use Rattle.ring_base.specs.declared.fault.Fault.TheVariants.{Conflict, Stale, NumberGap, SessionsFull}
use Rattle.ring_object.specs.Operations.{Sequential}
use Rattle.ring_payload.specs.declared.call.Call.{Call}
pub use Rattle.ring_session_entry.specs.LastCalls.{LastCall, no_call, last_call}
use Rattle.ring_session.specs.Deduplicated.{max_clients}
use Rattle.ring_session.specs.declared.answer.Answer.{Answer}
use Rattle.ring_session.specs.declared.answer.Answer.TheVariants.{Done, Kept}
use Rattle.ring_session.specs.SessionAnswer.{refusal}

-- The known clients, ascending, each with its last call, and the object's content.
pub record Table (O : Type 0) : Type 0 where
  pub sessions : List (ℕ × LastCall)
  pub content : O

-- The table of these sessions and this content.
abbrev pub table_of : {O : Type 0} → List (ℕ × LastCall) → O → Table O
table_of sessions content = record { sessions = sessions; content = content }

-- The invariant of every table: at most `max_clients` clients, each with a last call of a number of at least 1.
pub record IsTable {O : Type 0} (table : Table O) : Type 0 where
  pub few : length table.sessions ≤ max_clients
  pub numbered : All (λ (last : LastCall). 1 ≤ last.number) (values_of table.sessions)

-- The table before any call.
abbrev pub opening : {O : Type 0} → O → Table O
opening initial = table_of [] initial

-- The client's last call, if the client is known.
abbrev pub session_of : {O : Type 0} → Table O → ℕ → Option LastCall
session_of table client = lookup (is_at (nat_cmp client)) table.sessions

-- The client's last number, 0 if the client is unknown.
abbrev pub last_number : Option LastCall → ℕ
last_number None = 0
last_number (Some last) = last.number

-- Whether the client is known or may be added.
abbrev pub has_room_for_client : {O : Type 0} → Table O → ℕ → Bool
has_room_for_client table client = is_some (session_of table client) || nat_lt (length table.sessions) max_clients

-- Whether the call takes effect: its number is the client's next, and the table has room for the client.
abbrev pub takes_effect_in_table : {O A : Type 0} → Table O → Call A → Bool
takes_effect_in_table table c = (c.number == last_number (session_of table c.client) + 1) && has_room_for_client table c.client

-- The answer to a call with its client's last number: the kept reply if the operation is the kept one, otherwise
-- `Conflict`.
abbrev pub last_call_answer : Option LastCall → List ℕ → Answer
last_call_answer None operation = refusal Conflict
last_call_answer (Some last) operation = if bytes_eq last.operation operation then Kept last.reply else refusal Conflict

-- The answer to a call whose number isn't its client's next.
abbrev pub answer_unless_next : {A : Type 0} → Option LastCall → Call A → Answer
answer_unless_next last c =
    if c.number == last_number last then last_call_answer last c.op
    else if nat_lt c.number (last_number last) then refusal Stale
    else refusal NumberGap

module _ {O : Type 0} (object : Sequential O) where
  -- Sessions 3: the table's answer to a call.
  abbrev pub table_answer : {A : Type 0} → Table O → Call A → Answer
  table_answer table c =
      let last = session_of table c.client in
      if c.number == last_number last + 1 then (if has_room_for_client table c.client then Done (object.reply table.content c.op) else refusal SessionsFull)
      else answer_unless_next last c

  -- Sessions 3: the table after a call. A call that takes effect is applied and kept; any other call leaves the table
  -- unchanged.
  abbrev pub table_next : {A : Type 0} → Table O → Call A → Table O
  table_next table c =
      if takes_effect_in_table table c
      then table_of (insert_entry nat_cmp table.sessions c.client (last_call c (object.reply table.content c.op))) (object.next table.content c.op)
      else table

  -- The table after a list of calls, from the object's start.
  abbrev pub table_after : {A : Type 0} → List (Call A) → Table O
  table_after calls = fold table_next (opening object.initial) calls
