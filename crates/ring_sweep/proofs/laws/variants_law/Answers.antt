use Rattle.ring_sweep.proofs.Placing.{has_place}
use Rattle.ring_sweep.proofs.laws.variants_law.Goals as goal

pub returns : goal.returns
returns c = has_place
