use Rattle.std.proofs.Common.{◌≡◌, ◌++◌, take}
use Rattle.ring_node_spec.specs.Worlds.{reply_items_of as replies}
use Rattle.ring_book_lines.proofs.histories.add_replies.Given as goal

abbrev pub invariant-loop-answered : goal.invariant-loop-answered
invariant-loop-answered g l = l.items.items ≡ l.initial.items.items ++ replies (take l.answered-index l.answers)
