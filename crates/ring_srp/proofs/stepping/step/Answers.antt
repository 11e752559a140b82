-- The pieces of a step make the step.
use Rattle.std.proofs.Common.{sym, ◌∙◌, ap, subst}
use Rattle.std.specs.Prelude.{IfOk}
use Rattle.ring_core_spec.specs.Commits.{Configuration}
use Rattle.ring_core_spec.specs.State.{Core, StepResult}
use Rattle.ring_core_spec.specs.Deciding.{Transition}
use Rattle.ring_core_spec.proofs.InstalledKept.{done_installed}
use Rattle.ring_base.proofs.Results.{ok_to}
use Rattle.ring_srp_transitions.specs.CodeTransitions.{transition_of}
use Rattle.ring_srp_transitions.specs.Allowing.{MayApply}
use Rattle.ring_srp.specs.Given.{IsGiven}
use Rattle.ring_srp.proofs.Allowed.{allowed}
use Rattle.ring_srp.proofs.SafeInFront.{may_give}
use Rattle.ring_srp.proofs.StepOutputs.{decided_step, delivered_core, told_behind}
use Rattle.ring_srp.proofs.stepping.step.Goals as goal

pub apply_and_propose-requires : goal.apply_and_propose-requires
apply_and_propose-requires g c = subst (λ (a : Transition g.row.A.Denot). MayApply c.args.running_core.now a) (sym c.decide-chosen_transition.ensures)
    (allowed c.args.running_core.now c.args.input c.requires.fits)

pub deliver_and_install-requires-clause-ring : goal.deliver_and_install-requires-clause-ring
deliver_and_install-requires-clause-ring g c =
    c.ring_progress-before.ensures.ring
    ∙ sym (ap (λ (x : Core g.row.A.Denot). x.installed.ring) c.in_ok-apply_and_propose.ensures.core
    ∙ ap (λ (x : Configuration). x.ring) (done_installed c.args.running_core.now (transition_of c.decide-chosen_transition.result)))

pub deliver_and_install-requires-clause-mark : goal.deliver_and_install-requires-clause-mark
deliver_and_install-requires-clause-mark g c =
    may_give _ _ (transition_of c.decide-chosen_transition.result) _ (subst (λ (a : Transition g.row.A.Denot). MayApply c.args.running_core.now a) (sym c.decide-chosen_transition.ensures)
    (allowed c.args.running_core.now c.args.input c.requires.fits)) c.in_ok-apply_and_propose.ensures.core c.ring_progress-before.ensures.front
    c.ring_progress-before.ensures.safe c.ring_progress-before.ensures.led

pub returns-clause-given : goal.returns-clause-given
returns-clause-given g c =
    let a = transition_of c.decide-chosen_transition.result in
    let sends = c.apply_and_propose.new.sends.items in
    subst (λ (s : StepResult g.row.A.Denot). IfOk c.deliver_and_install.result (λ told. IsGiven s.outs sends told.items))
    (decided_step c.args.running_core.now a c.args.input c.decide-chosen_transition.ensures)
    (told_behind c.args.running_core.now c.apply_and_propose.new.running_core a c.args.sends.now.items sends
    c.ring_progress-before.result.ring c.ring_progress-before.result.front c.ring_progress-before.result.mark c.deliver_and_install.result
    c.requires.empty c.in_ok-apply_and_propose.ensures.core c.in_ok-apply_and_propose.ensures.sends
    c.ring_progress-before.ensures.ring c.ring_progress-before.ensures.front c.ring_progress-before.ensures.mark c.deliver_and_install.ensures.told)

pub returns-clause-core : goal.returns-clause-core
returns-clause-core g c =
    let a = transition_of c.decide-chosen_transition.result in
    ok_to c.deliver_and_install.result _ _ _
    (delivered_core c.args.running_core.now c.apply_and_propose.new.running_core a c.in_ok-apply_and_propose.ensures.core
    ∙ ap (λ (s : StepResult g.row.A.Denot). s.core) (decided_step c.args.running_core.now a c.args.input c.decide-chosen_transition.ensures))
    c.deliver_and_install.ensures.core
