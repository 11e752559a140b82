-- The answers recorded so far.
use Rattle.std.proofs.Common.{length}
use Rattle.std.specs.Prelude.{vec_len, vec_capacity}
use Rattle.ring_world.proofs.Tellings.{HasTold, HasTaken}
use Rattle.ring_world.proofs.answer_records.record_all_answers.Given as goal

abbrev pub invariant-loop-answered : goal.invariant-loop-answered
invariant-loop-answered g l =
    HasTold l.node l.yielded l.fn.told.items l.told.items l.fn.history.items l.history.items l.fn.spares.calls l.spares.calls
    × HasTaken (length l.yielded) (vec_len l.fn.told) (vec_len l.told) (vec_capacity l.fn.told) (vec_capacity l.told)
    × HasTaken (length l.yielded) (vec_len l.fn.history) (vec_len l.history) (vec_capacity l.fn.history) (vec_capacity l.history)
