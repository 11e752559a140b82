use Rattle.ring_core_proof.proofs.TransitionLimits.{step_fits}
use Rattle.ring_core_proof.proofs.RunLimits.{opening_fits, formed_fits, halted_fits}
use Rattle.ring_core_proof.proofs.limits_laws.core_within_limits_law.Goals as goal

pub returns-clause-opens : goal.returns-clause-opens
returns-clause-opens g c = opening_fits

pub returns-clause-formed : goal.returns-clause-formed
returns-clause-formed g c = formed_fits

pub returns-clause-steps : goal.returns-clause-steps
returns-clause-steps g c = λ d input f w. (step_fits d input f w).core

pub returns-clause-sends : goal.returns-clause-sends
returns-clause-sends g c = λ d input f w. (step_fits d input f w).outs

pub returns-clause-stops : goal.returns-clause-stops
returns-clause-stops g c = halted_fits
