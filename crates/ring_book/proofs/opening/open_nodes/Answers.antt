use Rattle.std.proofs.Common.{◌+◌, ap, arith, ◌∙◌, sym}
use Rattle.ring_book.proofs.opening.open_nodes.Goals as goal

pub open_node-requires : goal.open_node-requires
open_node-requires g c = record {
  member = omega (arith, c.new.ensures, c.loop-i-test.true, c.count-i-end.ensures.value);
  next = ap (λ n. n + 1) c.loop-i.invariant.count ∙ sym c.new.ensures;
  start = c.loop-i.invariant.start;
  ends = c.loop-i.invariant.ends;
}

pub loop-i-preserved : goal.loop-i-preserved
loop-i-preserved g c = record {
  start = c.in_ok-open_node.ensures.start;
  ends = c.in_ok-open_node.ensures.ends;
  count = c.in_ok-open_node.ensures.count ∙ c.new.ensures;
}
