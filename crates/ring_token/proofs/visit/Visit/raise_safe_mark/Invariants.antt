-- One more raise of the ring's mark.
use Rattle.ring_token.specs.Histories.{history_with_raise}
use Rattle.ring_token.proofs.visit.Visit.raise_safe_mark.Given as goal

abbrev pub ghost-ghost_of : goal.ghost-ghost_of
ghost-ghost_of g a = history_with_raise a.from.now.0.now.value a.from.now.1
