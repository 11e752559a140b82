-- A proposal comes after the transition's sends.
use Rattle.std.proofs.Common.{◌≡◌, true, List, ◌++◌, refl, sym, ◌∙◌, ap}
use Rattle.ring_core_spec.specs.State.{OutgoingFrame}
use Rattle.ring_core_spec.specs.Transitions.{may_propose_after}
use Rattle.ring_core_spec.specs.Giving.{sends_with_receivers}
use Rattle.ring_srp_transitions.specs.CodeTransitions.{transition_of}
use Rattle.ring_srp.proofs.StepOutputs.{done_core, done_sends, alone_core, alone_sends}
use Rattle.ring_base.proofs.Results.{ok_to}
use Rattle.ring_srp.proofs.stepping.apply_and_propose.Goals as goal

pub returns-then-may_propose-clause-core : goal.returns-then-may_propose-clause-core
returns-then-may_propose-clause-core g c =
    let may_propose : may_propose_after (transition_of c.args.chosen_transition) ≡ true = sym c.may_propose_after-may_propose.ensures ∙ c.if-may_propose.true in
    ok_to c.propose_if_due.result _ _ _
    (done_core c.args.running_core.now c.apply_transition.new.running_core (transition_of c.args.chosen_transition) may_propose c.in_ok-apply_transition.ensures.core) c.propose_if_due.ensures.core

pub returns-then-may_propose-clause-sends : goal.returns-then-may_propose-clause-sends
returns-then-may_propose-clause-sends g c =
    let may_propose : may_propose_after (transition_of c.args.chosen_transition) ≡ true = sym c.may_propose_after-may_propose.ensures ∙ c.if-may_propose.true in
    ok_to c.propose_if_due.result _ _ _
    (done_sends c.args.running_core.now c.apply_transition.new.running_core (transition_of c.args.chosen_transition) c.args.sends.now.items c.apply_transition.new.sends.items _
    may_propose c.in_ok-apply_transition.ensures.core c.in_ok-apply_transition.ensures.sends refl)
    c.propose_if_due.ensures.sends

pub returns-else-may_propose-clause-core : goal.returns-else-may_propose-clause-core
returns-else-may_propose-clause-core g c = c.in_ok-apply_transition.ensures.core
    ∙ alone_core c.args.running_core.now (transition_of c.args.chosen_transition) (sym c.may_propose_after-may_propose.ensures ∙ c.if-may_propose.false)

pub returns-else-may_propose-clause-sends : goal.returns-else-may_propose-clause-sends
returns-else-may_propose-clause-sends g c =
    c.in_ok-apply_transition.ensures.sends
    ∙ ap (λ (sends : List (OutgoingFrame g.row.A.Denot)). c.args.sends.now.items ++ sends_with_receivers sends)
    (alone_sends c.args.running_core.now (transition_of c.args.chosen_transition) (sym c.may_propose_after-may_propose.ensures ∙ c.if-may_propose.false))
