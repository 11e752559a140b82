-- The last request at a port, and its meaning for a client.
-- Rules: Clients 2, 4 and 5
use Rattle.std.specs.Prelude.{◌≡◌, ℕ, ◌+◌, ◌-◌, ◌^◌, ◌≤◌, ◌⊎◌, ◌&&◌, min, nat_le, if◌then◌else◌, List, [], length, take, Option, Some, None, ⊤}
use Rattle.ring_payload.specs.Limits.{max_operation}
use Rattle.ring_base.specs.Fault.{fault_number}
use Rattle.ring_base.specs.declared.fault.Fault.{Fault}
use Rattle.ring_payload.specs.declared.call.Call.{Call}
use Rattle.ring_session.specs.declared.answer.Answer.{Answer}
use Rattle.ring_session.specs.declared.answer.Answer.TheVariants.{Done, Kept, Refused}
use Rattle.ring_client.specs.declared.last_request.Asked.{Asked}

-- a call of this client and number with this operation was submitted, and not polled yet
abbrev pub just_submitted : ℕ → ℕ → List ℕ → Asked
just_submitted client number op = record { client = client; number = number; op = op; refused = None; polls = 0; answer = None }

-- before any submit
abbrev pub new_asked : Asked
new_asked = just_submitted 0 0 []

-- the call may be submitted: its operation has at most 1,024 bytes, and its number is at least 1
abbrev pub IsSubmittable : {A : Type 0} → Call A → Type 0
IsSubmittable call = (length call.op ≤ max_operation) × (1 ≤ call.number)

-- after the submit of a call
abbrev pub asked_after_submit : {A : Type 0} → Call A → Asked
asked_after_submit call = just_submitted call.client call.number (take max_operation call.op)

-- after the refusal of the submit
abbrev pub asked_after_refusal : Fault → Asked → Asked
asked_after_refusal fault asked = record (asked) { refused = Some (fault_number fault) }

-- after one more poll with this result
abbrev pub asked_after_poll : Option Answer → Asked → Asked
asked_after_poll answer asked = record (asked) { polls = min (asked.polls + 1) (2 ^ 64 - 1); answer = answer }

-- an answer that a call can have: a refusal in it is one of the sessions, 4 to 7
abbrev pub IsClientVisible : Answer → Type 0
IsClientVisible (Done reply) = ⊤
IsClientVisible (Kept reply) = ⊤
IsClientVisible (Refused number) = (4 ≤ number) × (number ≤ 7)

-- the answer, if a call can have it
abbrev pub if_client_visible : Answer → Option Answer
if_client_visible (Done reply) = Some (Done reply)
if_client_visible (Kept reply) = Some (Kept reply)
if_client_visible (Refused number) = if nat_le 4 number && nat_le number 7 then Some (Refused number) else None

-- the call got no answer: its submit was refused, or `turns` polls gave none
abbrev pub HasNoAnswer : Asked → ℕ → Asked → Type 0
HasNoAnswer call turns asked = ((fault : Fault) × (asked ≡ asked_after_refusal fault call)) ⊎ (asked ≡ record (call) { polls = turns })

-- the last of at most `turns` polls gave this answer to the call
abbrev pub HasAnswered : Asked → ℕ → Answer → Asked → Type 0
HasAnswered call turns answer asked = (polls : ℕ) × (1 ≤ polls) × (polls ≤ turns) × (asked ≡ record (call) { polls = polls; answer = Some answer })
