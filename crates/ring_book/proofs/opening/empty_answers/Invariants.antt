use Rattle.std.proofs.Common.{◌≡◌, length}
use Rattle.ring_book.proofs.Opened.{AreNone}
use Rattle.ring_book.proofs.opening.empty_answers.Given as goal

abbrev pub invariant-loop : goal.invariant-loop
invariant-loop g l = (length l.answer_indexes.items ≡ l.counter) × AreNone l.answer_indexes.items
