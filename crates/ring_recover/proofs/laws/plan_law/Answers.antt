use Rattle.ring_recover.proofs.Finishing.{plan_of_old}
use Rattle.ring_recover.proofs.laws.plan_law.Goals as goal

pub returns : goal.returns
returns c = plan_of_old
