-- A step of a node, as the journal carries it, and its line in the book.
-- Rules: The book and the threads 9, 10 and 13
use Rattle.std.specs.Prelude.{ℕ, List}
use Rattle.ring_core_spec.specs.State.{OutgoingFrame}
use Rattle.ring_payload.specs.declared.call.Call.{Call}
use Rattle.ring_session.specs.declared.ticket_answer.TicketAnswer.{TicketAnswer}
use Rattle.ring_book_lines.specs.declared.input.LineInput.{LineInput}

-- one step of a node, or one submit
pub record StepView (A : Type 0) : Type 0 where
  -- the node's processor
  pub node : ℕ
  pub input : LineInput A
  -- the frames sent, with their receivers
  pub frames : List (OutgoingFrame A)
  pub answers : List (TicketAnswer A)
  -- the calls newly committed, and the node's committed length afterwards, counted from the log's beginning
  pub calls : List (Call A)
  pub committed : ℕ

-- a line of the book: its number in the list, counted from 0, and its step
pub record LineView (A : Type 0) : Type 0 where
  pub number : ℕ
  pub step : StepView A
