-- None of the answers so far is the ticket's.
use Rattle.std.proofs.Common.{◌≡◌, drop}
use Rattle.ring_session.specs.RecentAnswers.{recent_answer_to}
use Rattle.ring_session.proofs.recent_answers.RecentAnswers.answer_to.Given as goal

abbrev pub invariant-loop-place : goal.invariant-loop-place
invariant-loop-place g l = recent_answer_to l.ticket l.self ≡ recent_answer_to l.ticket (drop l.place l.self)
