use Rattle.ring_chain_proof.proofs.ChainInRuns.{unformed_marks}
use Rattle.ring_chain_proof.proofs.Plans.{reports_are_safe}
use Rattle.ring_chain_proof.proofs.OnlyRing.{formed_all_hold}
use Rattle.ring_chain_proof.proofs.laws.safe_mark_law.Goals as goal

pub returns-clause-unformed : goal.returns-clause-unformed
returns-clause-unformed g c = unformed_marks

pub returns-clause-formed : goal.returns-clause-formed
returns-clause-formed g c = formed_all_hold

pub returns-clause-reported : goal.returns-clause-reported
returns-clause-reported g c = reports_are_safe
