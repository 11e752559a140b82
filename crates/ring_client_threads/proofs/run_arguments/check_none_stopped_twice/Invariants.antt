use Rattle.ring_client_threads.proofs.Distinct.{AreApartBelow}
use Rattle.ring_client_threads.proofs.run_arguments.check_none_stopped_twice.Given as goal

abbrev pub invariant-loop-i : goal.invariant-loop-i
invariant-loop-i l = AreApartBelow l.numbers l.i
