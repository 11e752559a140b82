use Rattle.std.proofs.Common.{◌≡◌, take}
use Rattle.ring_book_lines.specs.Events.{history_of}
use Rattle.ring_book_lines.proofs.histories.history_of_lines.Given as goal

abbrev pub invariant-loop-line : goal.invariant-loop-line
invariant-loop-line g l = l.items.items ≡ history_of (take l.line-index l.lines)
