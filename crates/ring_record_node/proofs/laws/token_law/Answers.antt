-- The transition chosen for a token sends something, or is `Ignore`.
use Rattle.ring_record_node.proofs.Fates.{nothing_sent, something_sent}
use Rattle.ring_record_node.proofs.laws.token_law.Goals as goal

pub returns-clause-ignored : goal.returns-clause-ignored
returns-clause-ignored g c = λ n frame e ignored. nothing_sent g.O.Object.sequential n frame ignored

pub returns-clause-taken : goal.returns-clause-taken
returns-clause-taken g c = λ n frame e taken runs. something_sent g.O.Object.sequential n frame e taken runs
