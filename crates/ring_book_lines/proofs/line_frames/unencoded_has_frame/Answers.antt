use Rattle.ring_book_lines.proofs.line_frames.unencoded_has_frame.Goals as goal

pub returns-in-Some : goal.returns-in-Some
returns-in-Some g c = rw (← c.in-Some.ensures) c.is_sent_frame.ensures
