use Rattle.std.proofs.Common.{◌+◌, subst}
use Rattle.ring_explore.specs.Explored.{AreTried, seeds_in}
use Rattle.ring_explore.specs.Tried.{IsTriedIn}
use Rattle.ring_explore.proofs.exploring.print_result.Goals as goal

pub returns-in_ok-print_totals-in-None-clause-legal : goal.returns-in_ok-print_totals-in-None-clause-legal
returns-in_ok-print_totals-in-None-clause-legal g c =
    let plan = c.args.plan.now in
    λ is. subst (AreTried (IsTriedIn g.T.Object.sequential g.V.Vocabulary.forms plan) plan.first (plan.first + seeds_in plan.first plan.last)) c.in-None.is c.requires

pub returns-in_ok-print_illegal-in-Some-clause-illegal : goal.returns-in_ok-print_illegal-in-Some-clause-illegal
returns-in_ok-print_illegal-in-Some-clause-illegal g c =
    let plan = c.args.plan.now in
    λ not. (
      c.in-Some.seed,
      subst (AreTried (IsTriedIn g.T.Object.sequential g.V.Vocabulary.forms plan) plan.first (plan.first + seeds_in plan.first plan.last)) c.in-Some.is c.requires,
    )
