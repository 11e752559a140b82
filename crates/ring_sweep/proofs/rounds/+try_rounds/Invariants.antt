use Rattle.std.proofs.Common.{◌-◌}
use Rattle.ring_sweep.proofs.rounds.+try_rounds.Given as goal

abbrev pub decreases-try_rounds : goal.decreases-try_rounds
decreases-try_rounds g l = l.part.upto - l.part.from
