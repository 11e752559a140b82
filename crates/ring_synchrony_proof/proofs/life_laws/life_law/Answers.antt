use Rattle.ring_synchrony_proof.proofs.LivesOfWorlds.{lives_are, all_well_told}
use Rattle.ring_synchrony_proof.proofs.life_laws.life_law.Goals as goal

pub returns-clause-lives : goal.returns-clause-lives
returns-clause-lives g c = lives_are

pub returns-clause-told : goal.returns-clause-told
returns-clause-told g c = all_well_told
