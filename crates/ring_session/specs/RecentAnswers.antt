-- The answers given last, which a node keeps.
-- Rules: The replicated log 15
use Rattle.std.specs.Prelude.{ℕ, ◌-◌, ◌==◌, List, [], ◌∷◌, length, drop, Option, Some, None, if◌then◌else◌}
use Rattle.ring_session.specs.declared.answer.Answer.{Answer}
use Rattle.ring_session.specs.declared.ticket_answer.TicketAnswer.{TicketAnswer}
use Rattle.ring_session.specs.declared.recent_answers.KeptAnswer.{KeptAnswer}

-- The last 64 elements of a list, which are kept.
abbrev pub last_64 : {X : Type 0} → List X → List X
last_64 xs = drop (length xs - 64) xs

-- The part of an answer that is kept: the ticket and the answer.
abbrev pub kept_of : {A : Type 0} → TicketAnswer A → KeptAnswer
kept_of a = record { ticket = a.ticket; answer = a.answer }

-- The answer to the ticket among the kept answers.
abbrev pub recent_answer_to : ℕ → List KeptAnswer → Option Answer
recent_answer_to ticket [] = None
recent_answer_to ticket (k ∷ rest) = if k.ticket == ticket then Some k.answer else recent_answer_to ticket rest
