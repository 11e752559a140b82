use Rattle.ring_book.proofs.book.Book.encode.Goals as goal

pub returns-in-Some : goal.returns-in-Some
returns-in-Some g c = rw (← c.in-Some.ensures) (rw c.frames.ensures at c.append_encoding.ensures)
