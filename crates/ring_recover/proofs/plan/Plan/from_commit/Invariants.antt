-- The plan is for the member's old ring.
use Rattle.ring_recover.specs.Plans.{plan_of}
use Rattle.ring_recover.proofs.plan.Plan.from_commit.Given as goal

abbrev pub ghost-ghost_of : goal.ghost-ghost_of
ghost-ghost_of g a = plan_of a.from.now.0.now a.from.now.1.now.members a.from.now.1.now.entries
