-- The session table's answer to each call of a list, as a function of the list: earlier answers, and the nodes that
-- gave them, play no part.
-- Rules: Sessions 3, 4, 7 and 8
use Rattle.std.specs.Prelude.{◌≡◌, ℕ, ◌+◌, ◌==◌, nat_lt, Bool, true, false, List, length, take, slice_get, Option, Some, None, position, if◌then◌else◌}
use Rattle.std.specs.Option.{option_map}
use Rattle.ring_base.specs.Fault.{fault_number}
use Rattle.ring_base.specs.declared.fault.Fault.{Fault}
use Rattle.ring_base.specs.declared.fault.Fault.TheVariants.{Conflict, Stale, NumberGap, SessionsFull}
use Rattle.ring_object.specs.Operations.{Sequential, reply_at}
use Rattle.ring_payload.specs.declared.call.Call.{Call}
pub use Rattle.ring_payload.specs.SameCalls.{is_same}
use Rattle.ring_session.specs.declared.answer.Answer.{Answer}
use Rattle.ring_session.specs.declared.answer.Answer.TheVariants.{Done, Kept, Refused}
use Rattle.ring_session.specs.Deduplicated.{count_of, may_call, deduplicated, IsCallAt, operations}

-- The answer that refuses with this fault.
abbrev pub refusal : Fault → Answer
refusal fault = Refused (fault_number fault)

-- Sessions 3: the answer to a call with its client's last number: the reply at its place if it is the call with that
-- number, otherwise `Conflict`.
abbrev pub repeated_call_answer : (ℕ → List ℕ) → Option ℕ → Answer
repeated_call_answer replies (Some place) = Kept (replies place)
repeated_call_answer replies None = refusal Conflict

-- Sessions 3: the answer to a call after the kept calls took effect, from the replies at their places and at the next place.
abbrev pub answer_after : {A : Type 0} → (ℕ → List ℕ) → List (Call A) → Call A → Answer
answer_after replies kept c =
    let last = count_of c.client kept in
    if c.number == last + 1 then (if may_call kept c.client then Done (replies (length kept)) else refusal SessionsFull)
    else if c.number == last then repeated_call_answer replies (position (is_same c) kept)
    else if nat_lt c.number last then refusal Stale
    else refusal NumberGap

-- Sessions 4: the reply in an answer, if the call took effect, now or before.
abbrev pub reply_of_answer : Answer → Option (List ℕ)
reply_of_answer (Done reply) = Some reply
reply_of_answer (Kept reply) = Some reply
reply_of_answer (Refused number) = None

-- Whether the call takes effect now.
abbrev pub is_done : Answer → Bool
is_done (Done reply) = true
is_done (Kept reply) = false
is_done (Refused number) = false

module _ {O : Type 0} (object : Sequential O) where
  -- Sessions 7: the sequential object's reply to the call at a place of the list.
  abbrev pub call_reply : {A : Type 0} → List (Call A) → ℕ → List ℕ
  call_reply calls p = reply_at object (operations calls) p

  -- Sessions 8: the answer to the call at a place of the list, if there is one.
  abbrev pub session_answer : {A : Type 0} → List (Call A) → ℕ → Option Answer
  session_answer calls p = option_map (answer_after (call_reply (deduplicated calls)) (deduplicated (take p calls))) (slice_get calls p)

  -- The call is in this order of calls, and the reply is the sequential object's reply there.
  abbrev pub IsReplyIn : {A : Type 0} → List (Call A) → Call A → List ℕ → Type 0
  IsReplyIn order c r = (q : ℕ) × IsCallAt order q c × (call_reply order q ≡ r)
