-- The variant of an answer decides.
use Rattle.std.proofs.Common.{rules}
use Rattle.ring_session.proofs.tickets.is_done_answer.Goals as goal

pub returns-in-Done : goal.returns-in-Done
returns-in-Done c = search rules
