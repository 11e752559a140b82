use Rattle.std.proofs.Common.{◌≡◌, ◌∙◌, ap, sym}
use Rattle.ring_book_lines.specs.StoredSteps.{sends_of}
use Rattle.ring_book_lines.proofs.line_frames.LineFrames.has_frame_for.Goals as goal

pub returns-in-Unencoded-clause-found : goal.returns-in-Unencoded-clause-found
returns-in-Unencoded-clause-found g c =
    let same : c.as_slice-in-Unencoded.result.now ≡ c.args.self.now = c.as_slice-in-Unencoded.ensures.value ∙ (sym (ap sends_of c.in-Unencoded.is) ∙ c.self.view_is) in
    rw (← same) c.unencoded_has_frame.ensures

pub returns-in-Encoded-clause-found : goal.returns-in-Encoded-clause-found
returns-in-Encoded-clause-found g c =
    let same : c.as_slice.result.now ≡ c.args.self.now = c.as_slice.ensures.value ∙ (sym (ap sends_of c.in-Encoded.is) ∙ c.self.view_is) in
    rw (← same) c.encoded_has_frame.ensures.found
