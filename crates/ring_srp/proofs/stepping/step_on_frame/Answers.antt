-- The chosen visit makes the step.
use Rattle.std.proofs.Common.{◌≡◌, sym, subst}
use Rattle.std.specs.Prelude.{IfOk, OnOk}
use Rattle.ring_core_spec.specs.State.{StepResult}
use Rattle.ring_core_spec.specs.Deciding.{Transition, Visit}
use Rattle.ring_core_spec.specs.declared.input.Input.TheVariants.{Frame as FrameInput}
use Rattle.ring_srp_transitions.specs.Allowing.{MayApply}
use Rattle.ring_srp.specs.Given.{IsGiven}
use Rattle.ring_srp.proofs.Allowed.{allowed}
use Rattle.ring_srp.proofs.StepOutputs.{decided_step}
use Rattle.ring_srp.proofs.stepping.step_on_frame.Goals as goal

pub step_with_token-requires-clause-allowed : goal.step_with_token-requires-clause-allowed
step_with_token-requires-clause-allowed g c = subst (λ (a : Transition g.row.A.Denot). MayApply c.args.running_core.now a) (sym c.in-Some.ensures)
    (allowed c.args.running_core.now (FrameInput c.args.frame.now) c.requires.fits)

pub returns-in-Some-clause-given : goal.returns-in-Some-clause-given
returns-in-Some-clause-given g c =
    subst (λ (s : StepResult g.row.A.Denot). IfOk c.step_with_token.result (λ told. IsGiven s.outs c.step_with_token.new.sends.items told.items))
    (decided_step c.args.running_core.now (Visit c.in-Some.token.now) (FrameInput c.args.frame.now) c.in-Some.ensures) c.step_with_token.ensures.given

pub returns-in-Some-clause-core : goal.returns-in-Some-clause-core
returns-in-Some-clause-core g c =
    subst (λ (s : StepResult g.row.A.Denot). OnOk c.step_with_token.result (c.step_with_token.new.running_core ≡ s.core))
    (decided_step c.args.running_core.now (Visit c.in-Some.token.now) (FrameInput c.args.frame.now) c.in-Some.ensures) c.step_with_token.ensures.core
