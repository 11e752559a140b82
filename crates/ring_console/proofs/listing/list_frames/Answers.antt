use Rattle.ring_console.proofs.ListingLemmas.{none_cut}
use Rattle.ring_console.proofs.listing.list_frames.Goals as goal

pub returns-in-Err-clause-cut : goal.returns-in-Err-clause-cut
returns-in-Err-clause-cut g c = none_cut g.row.A.Denot _ _ _ c.in-Err.failure c.in-Err.ensures.refused
