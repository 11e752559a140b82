use Rattle.std.proofs.Common.{take}
use Rattle.std.specs.Io.KnownBytes.{Appends}
use Rattle.ring_console.specs.OutputLines.{told_text}
use Rattle.ring_console.proofs.printed_lines.print_told.Given as goal

-- The reports so far are printed.
abbrev pub invariant-loop-one : goal.invariant-loop-one
invariant-loop-one g l = Appends (g.W.Write.contents l.initial.out) (g.W.Write.contents l.out) (told_text (take l.one-index l.told))
