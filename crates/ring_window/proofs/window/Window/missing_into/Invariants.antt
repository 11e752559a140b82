use Rattle.std.proofs.Common.{◌-◌}
use Rattle.ring_window.proofs.Missing.{IsCounted}
use Rattle.ring_window.proofs.window.Window.missing_into.Given as goal

abbrev pub invariant-loop-offset : goal.invariant-loop-offset
invariant-loop-offset g l = IsCounted (record {
  ring = l.self-inside.ring;
  mark = l.self-inside.mark;
  held = l.self-inside.history.value;
}) l.self-inside.bits.words l.upto l.end l.offset l.missing

abbrev pub decreases-loop-offset : goal.decreases-loop-offset
decreases-loop-offset g l = l.end - l.offset
