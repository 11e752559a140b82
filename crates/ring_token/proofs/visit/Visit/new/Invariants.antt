use Rattle.ring_token.specs.Histories.{without_visits}
use Rattle.ring_token.proofs.visit.Visit.new.Given as goal

abbrev pub ghost-ghost_of : goal.ghost-ghost_of
ghost-ghost_of g a = without_visits a.from.now.0.now a.from.now.1.now
