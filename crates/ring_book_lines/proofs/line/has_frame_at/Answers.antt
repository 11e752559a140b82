use Rattle.std.proofs.Common.{None, Some}
use Rattle.ring_base.proofs.ListPlaces.{item_copied}
use Rattle.ring_book_lines.proofs.line.has_frame_at.Goals as goal

pub returns-in-Some-clause-found : goal.returns-in-Some-clause-found
returns-in-Some-clause-found g c =
    let here = item_copied c.args.lines.now c.args.at.line (Some c.in-Some.line) c.in-Some.ensures.lookup in
    rw (← here) (rw c.frames.ensures at c.has_frame_for.ensures.found)

pub returns-in-None-clause-found : goal.returns-in-None-clause-found
returns-in-None-clause-found g c =
    let here = item_copied c.args.lines.now c.args.at.line None c.in-None.ensures.lookup in
    rw (← here) ((λ t. absurd (cc t)), (λ e. absurd (cc e)))
