use Rattle.std.proofs.Common.{◌∙◌}
use Rattle.ring_book_lines.proofs.FramesInLines.{same_frame}
use Rattle.ring_book_lines.proofs.encoded_frame.EncodedFrame.is_frame.Goals as goal

pub returns-clause-same : goal.returns-clause-same
returns-clause-same g c = rw (← c.self.view_is)
    (same_frame c.self.inside.frame.value c.args.frame.now _ _ _ c.self.invariant.0 c.requires.fits
    (c.as_slice.ensures.value ∙ c.self.invariant.1) (c.as_slice-2.ensures ∙ c.encode_into.ensures.text)
    c.are_equal_bytes.ensures)
