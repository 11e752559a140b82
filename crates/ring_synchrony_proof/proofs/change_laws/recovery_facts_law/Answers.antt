use Rattle.ring_synchrony_proof.proofs.Unwrapped.{all_hold_ends}
use Rattle.ring_synchrony_proof.proofs.WrappedIsHeld.{all_recover}
use Rattle.ring_synchrony_proof.proofs.change_laws.recovery_facts_law.Goals as goal

pub returns-clause-ends : goal.returns-clause-ends
returns-clause-ends g c = all_hold_ends

pub returns-clause-recovers : goal.returns-clause-recovers
returns-clause-recovers g c = all_recover
