use Rattle.std.proofs.Common.{◌+◌}
use Rattle.ring_explore.specs.Explored.{AreTried, seeds_in}
use Rattle.ring_failure.specs.Shares.{share_begin}
use Rattle.ring_explore.specs.Tried.{IsTriedIn}
use Rattle.ring_explore.proofs.exploring.try_share.Given as goal

-- The seeds so far were tried.
abbrev pub invariant-loop-place : goal.invariant-loop-place
invariant-loop-place g l =
    AreTried (IsTriedIn g.O.Object.sequential g.V.Vocabulary.forms l.plan)
    (l.plan.first + share_begin (seeds_in l.plan.first l.plan.last) l.shares l.share) (l.plan.first + l.place) l.seed_totals.illegal
