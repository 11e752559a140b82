use Rattle.std.proofs.Common.{◌≡◌, suc, ◌+◌, length, drop}
use Rattle.ring_book_lines.specs.Machines.{node_machine}
use Rattle.ring_book.specs.Openings.{AllStart, rings_of, new_cells}
use Rattle.ring_book.proofs.opening.add_cells.Given as goal

abbrev pub invariant-loop-i : goal.invariant-loop-i
invariant-loop-i g l = record {
  start : AllStart (node_machine g.O.Object.sequential g.K.BookName.name.group) (suc l.i) l.nodes.items l.writers.items;
  count : l.i + length l.nodes.items ≡ g.K.BookName.name.group.count;
  rings : drop l.i g.K.BookName.name.rings ≡ rings_of l.writers.items;
  cells : l.cells.items ≡ new_cells (node_machine g.O.Object.sequential g.K.BookName.name.group) l.i;
}
