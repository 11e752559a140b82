use Rattle.std.proofs.Common.{◌≡◌, length}
use Rattle.ring_book_lines.specs.Machines.{node_machine}
use Rattle.ring_book.specs.Openings.{AllStart, AllStartEnds}
use Rattle.ring_book.proofs.opening.open_nodes.Given as goal

abbrev pub invariant-loop-i : goal.invariant-loop-i
invariant-loop-i g l = record {
  start : AllStart (node_machine g.O.Object.sequential l.group) 1 l.nodes.items l.writers.items;
  ends : AllStartEnds l.writers.items l.ends.items;
  count : length l.nodes.items ≡ l.i;
}
