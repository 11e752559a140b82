use Rattle.ring_join.proofs.Consensus.{consensus}
use Rattle.ring_join.proofs.laws.consensus_test_law.Goals as goal

pub returns : goal.returns
returns c = consensus
