-- Nothing is added where the node had stopped before.
use Rattle.std.proofs.Common.{refl, sym}
use Rattle.ring_book.proofs.journal_writer.JournalWriter.add_step_or_stop.Goals as goal

pub returns-in_default : goal.returns-in_default
returns-in_default g c = record {
  same = sym c.in-Err.is;
  added = rw c.in-Err.is (λ is. absurd (c.in_default.not-Memory is), λ _. refl);
  room = c.requires.room;
}
