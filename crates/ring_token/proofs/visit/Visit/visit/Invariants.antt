-- The ghost argument of the caller.
use Rattle.ring_token.proofs.visit.Visit.visit.Given as goal

abbrev pub ghost-visit_into : goal.ghost-visit_into
ghost-visit_into g a = g.fresh
