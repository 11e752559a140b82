use Rattle.std.proofs.Common.{length, ◌≡◌}
use Rattle.ring_book.specs.AnswerIndex.{AreRoomier}
use Rattle.ring_book.proofs.Entering.{HaveRoom}
use Rattle.ring_book.proofs.book.reserve_answers.Given as goal

abbrev pub invariant-loop-at : goal.invariant-loop-at
invariant-loop-at g l = record {
  stays : AreRoomier l.initial.answer_indexes.items l.answer_indexes.items;
  rooms : HaveRoom l.more l.at l.answer_indexes.items;
  many : length l.answer_indexes.items ≡ l.at-end;
}
