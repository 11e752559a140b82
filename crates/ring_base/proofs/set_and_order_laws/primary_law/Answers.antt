use Rattle.ring_base.specs.Primaries.{primaries_share, primary_tested}
use Rattle.ring_base.proofs.set_and_order_laws.primary_law.Goals as goal

pub returns-clause-meet : goal.returns-clause-meet
returns-clause-meet c = primaries_share

pub returns-clause-tested : goal.returns-clause-tested
returns-clause-tested c = primary_tested
