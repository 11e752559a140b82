-- The pieces of a step make the step.
use Rattle.std.proofs.Common.{sym, ◌∙◌, ap}
use Rattle.ring_core_spec.specs.Commits.{Configuration}
use Rattle.ring_core_spec.specs.State.{Core}
use Rattle.ring_core_spec.specs.Deciding.{Take}
use Rattle.ring_core_spec.proofs.InstalledKept.{done_installed}
use Rattle.ring_base.proofs.Results.{ok_to}
use Rattle.ring_srp.proofs.SafeInFront.{may_give}
use Rattle.ring_srp.proofs.StepOutputs.{delivered_core, told_behind}
use Rattle.ring_srp.proofs.stepping.step_with_message.Goals as goal

pub deliver_and_install-requires-clause-ring : goal.deliver_and_install-requires-clause-ring
deliver_and_install-requires-clause-ring g c =
    c.ring_progress-before.ensures.ring
    ∙ sym (ap (λ (x : Core g.row.A.Denot). x.installed.ring) c.in_ok-take_and_propose.ensures.core
    ∙ ap (λ (x : Configuration). x.ring) (done_installed c.args.running_core.now (Take c.args.message)))

pub deliver_and_install-requires-clause-mark : goal.deliver_and_install-requires-clause-mark
deliver_and_install-requires-clause-mark g c =
    may_give _ _ (Take c.args.message) _ c.requires.taken c.in_ok-take_and_propose.ensures.core c.ring_progress-before.ensures.front
    c.ring_progress-before.ensures.safe c.ring_progress-before.ensures.led

pub returns-clause-given : goal.returns-clause-given
returns-clause-given g c =
    told_behind c.args.running_core.now c.take_and_propose.new.running_core (Take c.args.message) c.args.sends.now.items c.take_and_propose.new.sends.items
    c.ring_progress-before.result.ring c.ring_progress-before.result.front c.ring_progress-before.result.mark c.deliver_and_install.result
    c.requires.empty c.in_ok-take_and_propose.ensures.core c.in_ok-take_and_propose.ensures.sends
    c.ring_progress-before.ensures.ring c.ring_progress-before.ensures.front c.ring_progress-before.ensures.mark c.deliver_and_install.ensures.told

pub returns-clause-core : goal.returns-clause-core
returns-clause-core g c =
    ok_to c.deliver_and_install.result _ _ _
    (delivered_core c.args.running_core.now c.take_and_propose.new.running_core (Take c.args.message) c.in_ok-take_and_propose.ensures.core)
    c.deliver_and_install.ensures.core
