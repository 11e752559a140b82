-- The records of a node's outputs.
-- Rules: Nodes that records drive 3
-- Formats: Records
use Rattle.std.specs.Prelude.{ℕ, Bool, true, false, List, [], ◌∷◌, ◌++◌, flat_map, Option, Some, None}
use Rattle.byteorder.specs.Endian.{big_bytes}
use Rattle.ring_base.specs.Fault.{fault_number}
use Rattle.ring_base.specs.declared.fault.Fault.{Fault}
use Rattle.ring_base.specs.declared.ring_id.RingId.{RingId}
use Rattle.ring_base.specs.declared.state.State.{State}
use Rattle.ring_base.specs.declared.state.State.TheVariants.{Gather, Commit, Recovery, Operational, Stopped}
use Rattle.ring_payload.specs.declared.call.Call.{Call}
use Rattle.ring_wire.specs.Frames.{encoding_of}
use Rattle.ring_wire.specs.declared.frame.Frame.{Frame}
use Rattle.ring_session.specs.declared.answer.Answer.{Answer}
use Rattle.ring_session.specs.declared.answer.Answer.TheVariants.{Done, Kept, Refused}
use Rattle.ring_session.specs.declared.ticket_answer.TicketAnswer.{TicketAnswer}
use Rattle.ring_records.specs.Records.{record_of}
use Rattle.ring_records.specs.declared.membership.Membership.{Membership}
use Rattle.ring_records.specs.declared.timed_end.TimedEnd.{TimedEnd}
use Rattle.ring_records.specs.declared.token_outcome.TokenOutcome.{TokenOutcome}
use Rattle.ring_records.specs.declared.token_outcome.TokenOutcome.TheVariants.{NoToken, Taken, Ignored}

-- The record of a frame with its receivers.
abbrev pub frame_record : {A : Type 0} → ℕ → Frame A → List ℕ
frame_record to frame = record_of 70 (big_bytes 2 to ++ encoding_of frame)

-- The record of an answer to a ticket.
abbrev pub answer_record : ℕ → Answer → List ℕ
answer_record ticket (Done reply) = record_of 68 (big_bytes 8 ticket ++ reply)
answer_record ticket (Kept reply) = record_of 75 (big_bytes 8 ticket ++ reply)
answer_record ticket (Refused number) = record_of 82 (big_bytes 8 ticket ++ number ∷ [])

-- The record of a newly committed call.
abbrev pub committed_record : {A : Type 0} → Call A → List ℕ
committed_record c = record_of 67 (big_bytes 4 c.client ++ big_bytes 8 c.number ++ c.op)

-- The record of a restored snapshot, with the number of places that it replaces; nothing if none was restored.
abbrev pub restored_text : Option ℕ → List ℕ
restored_text None = []
restored_text (Some places) = record_of 71 (big_bytes 8 places)

-- The records of a step's answers, one after the other.
abbrev pub answers_text : {A : Type 0} → List (TicketAnswer A) → List ℕ
answers_text {A} answers = flat_map (λ (a : TicketAnswer A). answer_record a.ticket a.answer) answers

-- The records of a step's newly committed calls, one after the other.
abbrev pub all_committed_text : {A : Type 0} → List (Call A) → List ℕ
all_committed_text {A} calls = flat_map (λ (c : Call A). committed_record c) calls

-- The record of a submitted call's ticket.
abbrev pub ticket_record : ℕ → List ℕ
ticket_record ticket = record_of 84 (big_bytes 8 ticket)

-- The record of a refused input, with the fault's number.
abbrev pub refusal_record : Fault → List ℕ
refusal_record fault = record_of 88 (fault_number fault ∷ [])

-- The number of a state.
abbrev pub state_number : State → ℕ
state_number Gather = 0
state_number Commit = 1
state_number Recovery = 2
state_number Operational = 3
state_number Stopped = 4

-- The byte of a flag.
abbrev pub flag_byte_of : Bool → ℕ
flag_byte_of true = 1
flag_byte_of false = 0

-- The members of a ring, a set in two bytes, and whether they are primary.
abbrev pub membership_bytes : Membership → List ℕ
membership_bytes m = big_bytes 2 m.members ++ flag_byte_of m.is_primary ∷ []

-- The same, or nothing if they are not given.
abbrev pub membership_text : Option Membership → List ℕ
membership_text None = []
membership_text (Some m) = membership_bytes m

-- The bytes of a node's status: its state, its last installed ring, and the committed length, the length and the trimmed length
-- of its log.
abbrev pub status_bytes : State → RingId → ℕ → ℕ → ℕ → List ℕ
status_bytes state ring committed log trimmed =
    state_number state ∷ [] ++ big_bytes 8 ring.seq ++ ring.rep ∷ [] ++ big_bytes 8 committed ++ big_bytes 8 log ++ big_bytes 8 trimmed

-- The record of a node's status, with the members of its ring if they are given.
abbrev pub status_record : State → RingId → ℕ → ℕ → ℕ → Option Membership → List ℕ
status_record state ring committed log trimmed members = record_of 81 (status_bytes state ring committed log trimmed ++ membership_text members)

-- The record of a node's counts, each in eight bytes.
abbrev pub counts_record : List ℕ → List ℕ
counts_record numbers = record_of 73 (flat_map (big_bytes 8) numbers)

-- The record of an installed ring with its members.
abbrev pub members_record : RingId → Membership → List ℕ
members_record ring m = record_of 77 ((big_bytes 8 ring.seq ++ ring.rep ∷ []) ++ membership_bytes m)

-- The outcome of an input, from whether it was a token or a commit token, and whether the node took it.
abbrev pub token_outcome_of : Bool → Bool → TokenOutcome
token_outcome_of false taken = NoToken
token_outcome_of true true = Taken
token_outcome_of true false = Ignored

-- The byte of an outcome.
abbrev pub token_outcome_number : TokenOutcome → ℕ
token_outcome_number NoToken = 0
token_outcome_number Taken = 1
token_outcome_number Ignored = 2

-- Whether the token that was taken brought anything, and the earliest time at which a timeout is due.
abbrev pub timed_end_bytes : TimedEnd → List ℕ
timed_end_bytes t = flag_byte_of t.has_progressed ∷ big_bytes 8 t.next_time

-- The same, or nothing for a node without a clock.
abbrev pub timed_end_text : Option TimedEnd → List ℕ
timed_end_text None = []
timed_end_text (Some t) = timed_end_bytes t

-- The record that ends an input's outputs: the node's state, the outcome of a token, and what a node with a clock
-- appends.
abbrev pub end_record : State → TokenOutcome → Option TimedEnd → List ℕ
end_record state token timed = record_of 69 ((state_number state ∷ token_outcome_number token ∷ []) ++ timed_end_text timed)
