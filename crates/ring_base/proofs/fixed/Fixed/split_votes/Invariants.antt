use Rattle.std.proofs.Common.{◌≡◌, ◌≤◌, ◌+◌, ◌*◌, not}
use Rattle.std.specs.List.{sum_by}
use Rattle.ring_base.specs.Group.{votes_of}
use Rattle.ring_base.specs.FilteredRanges.{filtered_range}
use Rattle.ring_base.specs.Processors.{has}
use Rattle.ring_base.proofs.fixed.Fixed.split_votes.Given as goal

-- the votes so far of members, and of others
abbrev pub invariant-loop-i : goal.invariant-loop-i
invariant-loop-i l = record {
  members : l.inside ≡ sum_by (votes_of l.fn.self) (filtered_range (has l.set) 1 l.i);
  others : l.outside ≡ sum_by (votes_of l.fn.self) (filtered_range (λ j. not (has l.set j)) 1 l.i);
  fits : l.inside + l.outside ≤ 255 * l.i;
}
