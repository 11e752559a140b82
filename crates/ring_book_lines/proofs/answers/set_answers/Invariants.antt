use Rattle.std.proofs.Common.{◌≡◌, take}
use Rattle.std.specs.Prelude.{vec_capacity}
use Rattle.ring_book_lines.specs.Answers.{with_answers}
use Rattle.ring_book_lines.proofs.answers.set_answers.Given as goal

abbrev pub invariant-loop-answered : goal.invariant-loop-answered
invariant-loop-answered g l = record {
  items : l.told.items ≡ with_answers l.initial.told.items (take l.answered-index l.answers);
  capacity : vec_capacity l.told ≡ vec_capacity l.initial.told;
}
