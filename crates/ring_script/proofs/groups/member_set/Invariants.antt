use Rattle.std.proofs.Common.{◌≡◌, length}
use Rattle.ring_script.specs.Cuts.{member_set}
use Rattle.ring_script.proofs.groups.member_set.Given as goal

-- The remaining numbers complete the group so far to the set of all of them.
abbrev pub invariant-loop-nodes : goal.invariant-loop-nodes
invariant-loop-nodes l = member_set l.nodes l.group l.numbers ≡ member_set l.nodes l.initial.group l.initial.numbers

abbrev pub decreases-loop-nodes : goal.decreases-loop-nodes
decreases-loop-nodes l = length l.numbers
