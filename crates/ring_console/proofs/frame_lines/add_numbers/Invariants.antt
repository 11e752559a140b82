use Rattle.std.proofs.Common.{◌≡◌, ◌+◌, ◌*◌, ◌≤◌, ◌++◌, length}
use Rattle.std.specs.Prelude.{codes}
use Rattle.std.specs.Fmt.{decimal}
use Rattle.std.specs.Iterator.{size}
use Rattle.std.specs.List.{join_by}
use Rattle.ring_console.proofs.ListedLemmas.{is_none}
use Rattle.ring_console.proofs.frame_lines.add_numbers.Given as goal

-- The numbers so far are added, separated by commas, and there is room for the remaining ones.
abbrev pub invariant-loop-number : goal.invariant-loop-number
invariant-loop-number g l = record {
  fresh : l.is_empty ≡ is_none l.yielded;
  added : l.line ≡ l.initial.line ++ join_by decimal (codes ",") l.yielded;
  room : length l.line + 21 * size (g.I.Iterator.remaining l.number-iterator)
      ≤ length l.initial.line + 21 * size (g.I.Iterator.remaining l.initial.number-iterator);
}
