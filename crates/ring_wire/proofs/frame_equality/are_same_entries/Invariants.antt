use Rattle.std.proofs.Common.{◌≡◌, take}
use Rattle.ring_wire.proofs.frame_equality.are_same_entries.Given as goal

abbrev pub invariant-loop-i : goal.invariant-loop-i
invariant-loop-i l = take l.i l.some ≡ take l.i l.others
