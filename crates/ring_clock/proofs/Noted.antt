-- A clock that noted a step.
use Rattle.std.proofs.Common.{◌≡◌, ◌∙◌, Bool, List, Option, ap}
use Rattle.ring_base.specs.declared.timeout_kind.Kind.{Kind}
use Rattle.ring_core_spec.specs.State.{OutgoingFrame}
use Rattle.ring_node_spec.specs.declared.input.Input.{Input}
use Rattle.ring_timers.specs.declared.step_outcome.StepOutcome.{StepOutcome}
use Rattle.ring_clock.specs.Clocks.{ClockView, clock_after_step}
use Rattle.ring_clock.specs.StepOutcomes.{timeout_in, is_token_or_commit_token, outcome_from, outcome_of}

-- the noted outcome is that of the step on this input
pub noted : {A : Type 0} (i : Input A) (slice sends : List (OutgoingFrame A)) (timeout : Option Kind) (token : Bool) (outcome : StepOutcome) (old new : ClockView)
    → timeout ≡ timeout_in i → token ≡ is_token_or_commit_token i → slice ≡ sends → outcome ≡ outcome_from timeout token slice → new ≡ clock_after_step old outcome
    → new ≡ clock_after_step old (outcome_of i sends)
noted {A} i slice sends timeout token outcome old new timeout_is token_is slice_is outcome_is new_is =
    let parts : outcome ≡ outcome_of i sends = outcome_is ∙ ap (λ (t : Option Kind). outcome_from t token slice) timeout_is
    ∙ ap (λ (b : Bool). outcome_from (timeout_in i) b slice) token_is ∙ ap (λ (s : List (OutgoingFrame A)). outcome_from (timeout_in i) (is_token_or_commit_token i) s) slice_is in
    new_is ∙ ap (clock_after_step old) parts
