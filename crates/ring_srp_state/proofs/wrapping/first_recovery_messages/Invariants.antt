-- The payloads made so far are the first of all that are left.
use Rattle.ring_srp_state.proofs.WrapsByNumber.{IsMade}
use Rattle.ring_srp_state.proofs.wrapping.first_recovery_messages.Given as goal

abbrev pub invariant-loop-before : goal.invariant-loop-before
invariant-loop-before g l = IsMade l.plan l.window.held l.most l.before l.payloads.items
