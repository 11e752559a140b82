-- All seeds in rounds.
use Rattle.ring_explore.specs.Explored.{seeds_in}
use Rattle.ring_explore.specs.Tried.{IsTriedIn}
use Rattle.ring_explore.proofs.SeedsInShares.{tried_whole}
use Rattle.ring_explore.proofs.exploring.try_all.Goals as goal

pub returns-in-Some-clause-ok : goal.returns-in-Some-clause-ok
returns-in-Some-clause-ok g c =
    let plan = c.args.plan.now in
    tried_whole (IsTriedIn g.O.Object.sequential g.V.Vocabulary.forms plan) plan.first (seeds_in plan.first plan.last) c.try_rounds-seed_totals.result
    c.try_rounds-seed_totals.ensures.ok
