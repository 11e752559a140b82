use Rattle.ring_host_port.proofs.AnswersTold.{holds_of_told}
use Rattle.ring_host_port.proofs.port.HostPortPort.poll.Goals as goal

pub returns-then-is_none-clause-answered : goal.returns-then-is_none-clause-answered
returns-then-is_none-clause-answered g c = holds_of_told _ c.find_answer-found.result c.note_poll_result-answer.result c.note_poll_result-answer.ensures.answer c.find_answer-found.ensures.answered

pub returns-else-is_none-clause-answered : goal.returns-else-is_none-clause-answered
returns-else-is_none-clause-answered g c = holds_of_told _ c.find_answer-found.result c.note_poll_result-answer.result c.note_poll_result-answer.ensures.answer c.find_answer-found.ensures.answered
