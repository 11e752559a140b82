-- The answers so far are appended.
use Rattle.std.proofs.Common.{◌≡◌, ◌++◌, map, take}
use Rattle.ring_session.specs.RecentAnswers.{last_64, kept_of}
use Rattle.ring_session.proofs.recent_answers.RecentAnswers.append_answers.Given as goal

abbrev pub invariant-loop-answered : goal.invariant-loop-answered
invariant-loop-answered g l = l.self ≡ last_64 (l.fn.self ++ map kept_of (take l.answered-index l.answers))
