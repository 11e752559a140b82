-- The calls of a client, and their outcomes.
-- Rules: Clients 1, 3 to 7
use Rattle.std.specs.Prelude.{◌≡◌, ℕ, zero, suc, ◌+◌, ◌^◌, ◌<◌, ◌≤◌, ◌⊎◌, List, length, Option, Some, None, IsSome}
use Rattle.ring_payload.specs.Limits.{max_operation}
use Rattle.ring_payload.specs.Operations.{OpFits}
use Rattle.ring_base.specs.declared.fault.Fault.{Fault}
use Rattle.ring_base.specs.declared.fault.Fault.TheVariants.{OpTooLong, Conflict, Stale, NumberGap, SessionsFull, Memory, NoAnswer}
use Rattle.ring_session.specs.SessionAnswer.{refusal, reply_of_answer}
use Rattle.ring_session.specs.declared.answer.Answer.{Answer}
use Rattle.ring_client.specs.declared.last_request.Asked.{Asked}
use Rattle.ring_client.specs.Asking.{just_submitted}
use Rattle.ring_client.specs.Outcomes.{HaveNoAnswer, HasAnswer, HasNoMemoryAfterSubmit}

-- a client with its ports
pub record ClientOf (P : Type 0) : Type 0 where
  pub client : ℕ
  -- the number of its next call, from 1; 2^64 once its numbers are used up
  pub next : ℕ
  -- the operation of its open call, if it has one
  pub open_call : Option (List ℕ)
  -- the most polls of a port for one call
  pub turns : ℕ
  pub ports : List P

-- no call is open, and there is a number for the next
abbrev pub IsReady : {P : Type 0} → ClientOf P → Type 0
IsReady self = (self.open_call ≡ None) × (self.next < 2 ^ 64)

module _ {P : Type 0} (asked : P → Asked) (old new : ClientOf P) (op : List ℕ) where
  -- the call: the client's next number with this operation
  abbrev next_call : Asked
  next_call = just_submitted old.client old.next op

  -- a port gave this reply: the call is closed, and the number rises
  abbrev pub IsReplied : List ℕ → Type 0
  IsReplied reply = (answer : Answer) × (reply_of_answer answer ≡ Some reply) × HasAnswer asked next_call old.turns old.ports new.ports answer
      × (new ≡ record (old) { next = old.next + 1; open_call = None; ports = new.ports })

  -- a port answered with this refusal: the call is closed, and the number stays
  abbrev pub IsRefused : Fault → Type 0
  IsRefused fault = HasAnswer asked next_call old.turns old.ports new.ports (refusal fault) × (new ≡ record (old) { open_call = None; ports = new.ports })

  -- no port answered: the call is open
  abbrev pub IsUnanswered : Type 0
  IsUnanswered = HaveNoAnswer asked next_call old.turns old.ports new.ports (length old.ports) × (new ≡ record (old) { open_call = Some op; ports = new.ports })

  -- no memory for a port's call: for the first one's, and the client is unchanged; or for a later one's, and the call is
  -- open
  abbrev pub IsMemoryRefused : Type 0
  IsMemoryRefused = ((1 ≤ length old.ports) × (new ≡ old)) ⊎ (HasNoMemoryAfterSubmit asked next_call old.turns old.ports new.ports
      × (new ≡ record (old) { open_call = Some op; ports = new.ports }))

  -- why the ports gave no reply
  abbrev pub AskingRefused : Fault → Type 0
  AskingRefused Conflict = IsRefused Conflict
  AskingRefused Stale = IsRefused Stale
  AskingRefused NumberGap = IsRefused NumberGap
  AskingRefused SessionsFull = IsRefused SessionsFull
  AskingRefused Memory = IsMemoryRefused
  AskingRefused NoAnswer = IsUnanswered
  AskingRefused _ = ⊥

  -- why `call` gives no reply
  abbrev pub CallRefused : Fault → Type 0
  CallRefused OpTooLong = IsReady old × (max_operation < length op) × (new ≡ old)
  CallRefused NoAnswer = ((IsSome old.open_call ⊎ (old.next ≡ 2 ^ 64)) × (new ≡ old)) ⊎ (IsReady old × OpFits op × IsUnanswered)
  CallRefused fault = IsReady old × OpFits op × AskingRefused fault

-- why `again` gives no reply
abbrev pub AgainRefused : {P : Type 0} → (P → Asked) → ClientOf P → ClientOf P → Fault → Type 0
AgainRefused asked old new NoAnswer = ((old.open_call ≡ None) × (new ≡ old)) ⊎ ((op : List ℕ) × (old.open_call ≡ Some op) × IsUnanswered asked old new op)
AgainRefused asked old new fault = (op : List ℕ) × (old.open_call ≡ Some op) × AskingRefused asked old new op fault

-- from one client to the other, no port answered in this number of successive tries
unfoldable pub AreUnansweredTries : {P : Type 0} → (P → Asked) → List ℕ → ℕ → ClientOf P → ClientOf P → Type 0
AreUnansweredTries asked op zero old new = new ≡ old
AreUnansweredTries {P = P} asked op (suc tries) old new = (before : ClientOf P) × AreUnansweredTries asked op tries old before × IsUnanswered asked before new op

-- after at most `limit` tries without an answer, a port gave this reply
abbrev pub IsRepliedWithin : {P : Type 0} → (P → Asked) → ℕ → ClientOf P → ClientOf P → List ℕ → List ℕ → Type 0
IsRepliedWithin {P = P} asked limit old new op reply = (tries : ℕ) × (before : ClientOf P) × (tries ≤ limit)
    × AreUnansweredTries asked op tries old before × IsReplied asked before new op reply

-- why the ports gave no reply after at most `limit` tries without an answer; after exactly `limit` if no port answered
abbrev pub AskingRefusedWithin : {P : Type 0} → (P → Asked) → ℕ → ClientOf P → ClientOf P → List ℕ → Fault → Type 0
AskingRefusedWithin {P = P} asked limit old new op fault = (tries : ℕ) × (before : ClientOf P) × (tries ≤ limit) × (fault ≡ NoAnswer → tries ≡ limit)
    × AreUnansweredTries asked op tries old before × AskingRefused asked before new op fault

-- why `until_answered` gives no reply
abbrev pub UntilAnsweredRefused : {P : Type 0} → (P → Asked) → ℕ → ClientOf P → ClientOf P → List ℕ → Fault → Type 0
UntilAnsweredRefused asked limit old new op OpTooLong = IsReady old × (max_operation < length op) × (new ≡ old)
UntilAnsweredRefused asked limit old new op NoAnswer = ((IsSome old.open_call ⊎ (old.next ≡ 2 ^ 64)) × (new ≡ old))
    ⊎ (IsReady old × OpFits op × AskingRefusedWithin asked limit old new op NoAnswer)
UntilAnsweredRefused asked limit old new op fault = IsReady old × OpFits op × AskingRefusedWithin asked limit old new op fault
