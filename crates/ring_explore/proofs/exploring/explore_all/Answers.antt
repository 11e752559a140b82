-- If a seed was tried, the votes are those of a group.
use Rattle.ring_explore.proofs.TriedScripts.{tried_votes}
use Rattle.ring_explore.proofs.exploring.explore_all.Goals as goal

pub returns-clause-stranger : goal.returns-clause-stranger
returns-clause-stranger g c =
    λ strangers some. absurd (strangers (tried_votes g.T.Object.sequential g.V.Vocabulary.forms c.args.plan.now c.in_ok-seed_totals.seed_totals.illegal some c.in_ok-seed_totals.ensures.ok))
