-- The outcomes of a call that is tried at one port after another.
-- Rules: Clients 4 and 5
use Rattle.std.specs.Prelude.{◌≡◌, ℕ, ◌+◌, ◌<◌, ◌≤◌, List, All, length, take, drop, slice_get, Some}
use Rattle.ring_session.specs.declared.answer.Answer.{Answer}
use Rattle.ring_client.specs.declared.last_request.Asked.{Asked}
use Rattle.ring_client.specs.declared.port_trials.CallOutcome.{CallOutcome}
use Rattle.ring_client.specs.declared.port_trials.CallOutcome.TheVariants.{TicketAnswer, Unanswered, NotSubmitted, NoMemoryAfterSubmit}
use Rattle.ring_client.specs.Asking.{IsClientVisible, HasNoAnswer, HasAnswered}

-- a port's last request, the request of the call just submitted, the polls at each port, and the ports before and after
module _ {P : Type 0} (asked : P → Asked) (call : Asked) (turns : ℕ) (old new : List P) where
  -- the first `count` ports gave no answer, and the others are unchanged
  pub record HaveNoAnswer (count : ℕ) : Type 0 where
    pub in_vain : All (λ p. HasNoAnswer call turns (asked p)) (take count new)
    pub untouched : drop count new ≡ drop count old
    pub same_length : length new ≡ length old

  -- the port at this place answered, those before it gave no answer, and those after it are unchanged
  pub record HasAnswer (answer : Answer) : Type 0 where
    pub place : ℕ
    pub port : P
    pub here : slice_get new place ≡ Some port
    pub answered : HasAnswered call turns answer (asked port)
    pub in_vain : All (λ p. HasNoAnswer call turns (asked p)) (take place new)
    pub untouched : drop (place + 1) new ≡ drop (place + 1) old
    pub same_length : length new ≡ length old

  -- the ports before one gave no answer, at least one of them
  abbrev pub HasNoMemoryAfterSubmit : Type 0
  HasNoMemoryAfterSubmit = (count : ℕ) × (1 ≤ count) × (count < length old) × HaveNoAnswer count

  -- the outcome: a port answered; no port answered; or memory was refused for the first port's call or for a later one's
  abbrev pub IsOutcome : CallOutcome → Type 0
  IsOutcome (TicketAnswer answer) = IsClientVisible answer × HasAnswer answer
  IsOutcome Unanswered = HaveNoAnswer (length old)
  IsOutcome NotSubmitted = (1 ≤ length old) × (new ≡ old)
  IsOutcome NoMemoryAfterSubmit = HasNoMemoryAfterSubmit
