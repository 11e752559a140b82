use Rattle.ring_book_lines.proofs.line.is_deliverable.Goals as goal

pub returns-in-FrameBytes-clause-found : goal.returns-in-FrameBytes-clause-found
returns-in-FrameBytes-clause-found g c = rw (← c.step.view_is, c.in-FrameBytes.is) c.has_received_frame_at.ensures.found
