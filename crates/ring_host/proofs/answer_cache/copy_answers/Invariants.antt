use Rattle.std.proofs.Common.{◌≡◌, ℕ, ◌+◌, Some, length, slice_get}
use Rattle.ring_session.specs.declared.answer.Answer.{Answer}
use Rattle.ring_book.specs.Lines.{answer_of_ticket}
use Rattle.ring_host.proofs.answer_cache.copy_answers.Given as goal

abbrev pub invariant-loop-ahead : goal.invariant-loop-ahead
invariant-loop-ahead g l = record {
  count : length l.found.items ≡ l.ahead;
  kept : (i : ℕ) (a : Answer) → slice_get l.found.items i ≡ Some a → answer_of_ticket l.told (l.from + i) ≡ Some a;
}
