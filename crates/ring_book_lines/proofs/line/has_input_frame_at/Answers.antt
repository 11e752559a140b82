use Rattle.ring_book_lines.proofs.line.has_input_frame_at.Goals as goal

pub returns-in-Frame-clause-found : goal.returns-in-Frame-clause-found
returns-in-Frame-clause-found g c = rw c.in-Frame.is c.has_frame_at.ensures.found
