use Rattle.std.proofs.Common.{◌≡◌, ◌+◌, ◌++◌, length, take, drop}
use Rattle.ring_script.specs.Cuts.{placed_from}
use Rattle.ring_script.proofs.groups.Groups.set_group_of_members.Given as goal

-- The places done so far, and then those still to do, give the final table.
abbrev pub invariant-loop-i : goal.invariant-loop-i
invariant-loop-i l = record {
  long : length l.kept-items ≡ 16;
  same : take l.i l.kept-items ++ placed_from (l.i + 1) l.group (drop l.i l.kept-items) ≡ placed_from 1 l.group l.initial.kept-items;
}
