use Rattle.std.proofs.Common.{◌-◌}
use Rattle.ring_explore.specs.Explored.{seeds_in}
use Rattle.ring_explore.proofs.exploring.+try_rounds.Given as goal

abbrev pub decreases-try_rounds : goal.decreases-try_rounds
decreases-try_rounds g l = seeds_in l.plan.now.first l.plan.now.last - l.from
