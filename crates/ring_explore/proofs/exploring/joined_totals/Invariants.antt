use Rattle.std.proofs.Common.{◌+◌, length}
use Rattle.ring_explore.specs.Explored.{AreTried, seeds_in}
use Rattle.ring_failure.specs.Shares.{share_begin}
use Rattle.ring_explore.specs.Tried.{IsTriedIn}
use Rattle.ring_explore.proofs.exploring.joined_totals.Given as goal

-- The shares so far were tried.
abbrev pub invariant-loop-part : goal.invariant-loop-part
invariant-loop-part g l =
    AreTried (IsTriedIn g.O.Object.sequential g.V.Vocabulary.forms l.fn.plan) l.fn.plan.first
    (l.fn.plan.first + share_begin (seeds_in l.fn.plan.first l.fn.plan.last) l.fn.shares (length l.yielded)) l.all.illegal
