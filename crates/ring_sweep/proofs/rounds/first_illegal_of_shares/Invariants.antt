use Rattle.std.proofs.Common.{◌+◌, ◌-◌, length}
use Rattle.ring_failure.specs.Shares.{share_begin}
use Rattle.ring_sweep.specs.Variants.{AreTriedIn}
use Rattle.ring_sweep.proofs.rounds.first_illegal_of_shares.Given as goal

-- The shares so far were run.
abbrev pub invariant-loop-one : goal.invariant-loop-one
invariant-loop-one g l =
    AreTriedIn g.O.Object.sequential l.fn.script.nodes l.fn.script.lines.items l.fn.part.from
    (l.fn.part.from + share_begin (l.fn.part.upto - l.fn.part.from) l.fn.shares (length l.yielded)) l.illegal
