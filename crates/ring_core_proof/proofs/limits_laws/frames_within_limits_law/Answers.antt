use Rattle.ring_core_proof.proofs.RunLimits.{unformed_fits, formed_run_fits}
use Rattle.ring_core_proof.proofs.limits_laws.frames_within_limits_law.Goals as goal

pub returns-clause-unformed : goal.returns-clause-unformed
returns-clause-unformed g c = unformed_fits

pub returns-clause-formed : goal.returns-clause-formed
returns-clause-formed g c = formed_run_fits
