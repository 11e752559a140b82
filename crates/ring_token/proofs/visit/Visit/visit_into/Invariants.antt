-- One more visit.
use Rattle.ring_token.specs.Histories.{visit_made, history_with_visit}
use Rattle.ring_token.proofs.visit.Visit.visit_into.Given as goal

abbrev pub ghost-ghost_of : goal.ghost-ghost_of
ghost-ghost_of g a = history_with_visit a.from.now.0.now.value (visit_made a.from.now.0.now.value.me a.from.now.2 g.fresh a.from.now.3.now a.from.now.1.now)
