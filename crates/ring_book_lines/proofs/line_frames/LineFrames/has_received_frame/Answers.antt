use Rattle.ring_book_lines.specs.StoredSteps.{sends_of}
use Rattle.ring_book_lines.proofs.FramesInLines.{fits_there, same_there}
use Rattle.ring_book_lines.proofs.line_frames.LineFrames.has_received_frame.Goals as goal

pub returns-clause-found : goal.returns-clause-found
returns-clause-found g c =
    let fits = rw c.self.view_is at (fits_there (sends_of c.self.inside.stored) c.args.frame_index c.args.node c.self.invariant) in
    same_there _ c.args.frame.now _ c.has_bytes.result fits c.bytes.ensures.fits c.bytes.ensures.bytes c.has_bytes.ensures.found
