-- The payloads that the caller passes.
use Rattle.ring_srp_state.proofs.ring_part.visit_with_payloads.Given as goal

abbrev pub ghost-visit_into : goal.ghost-visit_into
ghost-visit_into g a = g.payloads
