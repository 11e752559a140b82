use Rattle.ring_recover.proofs.Finishing.{same_parts, same_rests}
use Rattle.ring_recover.proofs.laws.finish_law.Goals as goal

pub returns-clause-parts : goal.returns-clause-parts
returns-clause-parts g c = same_parts

pub returns-clause-messages : goal.returns-clause-messages
returns-clause-messages g c = same_rests
