-- The payloads of the new messages.
use Rattle.ring_srp_state.proofs.ring_part.WindowAndVisits.visit_into_token.Given as goal

abbrev pub ghost-visit_with_payloads : goal.ghost-visit_with_payloads
ghost-visit_with_payloads g a = a.fresh.now.value
