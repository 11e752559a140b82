use Rattle.std.proofs.Common.{◌≤◌, ◌-◌, length, take}
use Rattle.ring_checker.specs.Checks.{AreIssuedBefore}
use Rattle.ring_checker.proofs.check.issued_prefix_len.Given as goal

abbrev pub invariant-loop-front : goal.invariant-loop-front
invariant-loop-front l = record {
  within : l.front ≤ length l.places;
  issued : AreIssuedBefore (take l.front l.places) l.k;
}

abbrev pub decreases-loop-front : goal.decreases-loop-front
decreases-loop-front l = length l.places - l.front
