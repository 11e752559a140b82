-- One more counted join.
use Rattle.std.proofs.Common.{◌∷◌}
use Rattle.ring_join.proofs.gather.Gather.count_agreement.Given as goal

abbrev pub ghost-ghost_of : goal.ghost-ghost_of
ghost-ghost_of a = a.from.now.1.now ∷ a.from.now.0.now.value
