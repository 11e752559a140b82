use Rattle.std.proofs.Common.{◌≤◌, length, take}
use Rattle.ring_checker.specs.Checks.{AreIssuedBefore, IsItemRightAt}
use Rattle.ring_node_spec.proofs.FirstMatch.{EachUpTo}
use Rattle.ring_checker.proofs.check.are_replies_right.Given as goal

abbrev pub invariant-loop-k : goal.invariant-loop-k
invariant-loop-k g l = record {
  right : EachUpTo (IsItemRightAt l.order l.places) l.history l.k;
  within : l.front ≤ length l.places;
  issued : AreIssuedBefore (take l.front l.places) l.k;
}
