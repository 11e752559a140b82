use Rattle.std.proofs.Common.{◌≡◌, []}
use Rattle.ring_console.proofs.ListingLemmas.{IsSoFar}
use Rattle.ring_console.proofs.listing.list_with_reader.Given as goal

-- The frames so far are listed, and no line is begun.
abbrev pub invariant-loop : goal.invariant-loop
invariant-loop g l = IsSoFar l.frame_reader (g.R.Read.remaining l.initial.input) (g.R.Read.remaining l.input)
    (g.W.Write.contents l.initial.out) (g.W.Write.contents l.out)
    × (l.line ≡ [])
