use Rattle.ring_recover.proofs.NumbersPassing.{chosen_all}
use Rattle.ring_recover.proofs.numbers.NumberSet.iter.Goals as goal

pub returns : goal.returns
returns c = rw (← c.self.view_is) (chosen_all c.self.inside.after c.self.inside.offsets.words)
