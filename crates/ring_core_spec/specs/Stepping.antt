-- One step of a ring core: it chooses the transition, applies it, and gathers the outputs.
-- Rules: Rings and states 13
use Rattle.std.specs.Prelude.{List, [], ◌∷◌}
use Rattle.ring_core_spec.specs.declared.input.Input.{Input}
use Rattle.ring_core_spec.specs.State.{Core, StepResult}
use Rattle.ring_core_spec.specs.Deciding.{decide}
use Rattle.ring_core_spec.specs.Transitions.{transition_and_proposal}
use Rattle.ring_core_spec.specs.Giving.{step_result}

-- The core after an input, with the outputs of the step.
unfoldable pub ring_step : {A : Type 0} → Core A → Input A → StepResult A
ring_step c input = step_result c (transition_and_proposal c (decide c input))

-- The core after a list of inputs, in order.
abbrev pub after_inputs : {A : Type 0} → Core A → List (Input A) → Core A
after_inputs c [] = c
after_inputs c (input ∷ inputs) = after_inputs (ring_step c input).core inputs
