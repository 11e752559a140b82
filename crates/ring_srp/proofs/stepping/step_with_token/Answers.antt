-- The pieces of a step make the step.
use Rattle.std.proofs.Common.{sym, ◌∙◌, ap}
use Rattle.ring_core_spec.specs.Commits.{Configuration}
use Rattle.ring_core_spec.specs.State.{Core}
use Rattle.ring_core_spec.specs.Deciding.{Visit}
use Rattle.ring_core_spec.proofs.InstalledKept.{done_installed}
use Rattle.ring_base.proofs.Results.{ok_to}
use Rattle.ring_srp.proofs.SafeInFront.{may_give}
use Rattle.ring_srp.proofs.StepOutputs.{delivered_core, told_behind}
use Rattle.ring_srp.proofs.stepping.step_with_token.Goals as goal

pub deliver_and_install-requires-clause-ring : goal.deliver_and_install-requires-clause-ring
deliver_and_install-requires-clause-ring g c =
    c.ring_progress-before.ensures.ring
    ∙ sym (ap (λ (x : Core g.row.A.Denot). x.installed.ring) c.in_ok-visit_and_propose.ensures.core
    ∙ ap (λ (x : Configuration). x.ring) (done_installed c.args.running_core.now (Visit c.args.token.now)))

pub deliver_and_install-requires-clause-mark : goal.deliver_and_install-requires-clause-mark
deliver_and_install-requires-clause-mark g c =
    may_give _ _ (Visit c.args.token.now) _ c.requires.allowed c.in_ok-visit_and_propose.ensures.core c.ring_progress-before.ensures.front
    c.ring_progress-before.ensures.safe c.ring_progress-before.ensures.led

pub returns-clause-given : goal.returns-clause-given
returns-clause-given g c =
    told_behind c.args.running_core.now c.visit_and_propose.new.running_core (Visit c.args.token.now) c.args.sends.now.items c.visit_and_propose.new.sends.items
    c.ring_progress-before.result.ring c.ring_progress-before.result.front c.ring_progress-before.result.mark c.deliver_and_install.result
    c.requires.empty c.in_ok-visit_and_propose.ensures.core c.in_ok-visit_and_propose.ensures.sends
    c.ring_progress-before.ensures.ring c.ring_progress-before.ensures.front c.ring_progress-before.ensures.mark c.deliver_and_install.ensures.told

pub returns-clause-core : goal.returns-clause-core
returns-clause-core g c =
    ok_to c.deliver_and_install.result _ _ _
    (delivered_core c.args.running_core.now c.visit_and_propose.new.running_core (Visit c.args.token.now) c.in_ok-visit_and_propose.ensures.core)
    c.deliver_and_install.ensures.core
