-- The node took the record, or the record is no request, or memory was refused.
use Rattle.std.proofs.Common.{◌≡◌, false, refl, rules}
use Rattle.std.specs.Prelude.{IsTrue}
use Rattle.ring_record_node.proofs.buffered_node.BufferedNode.take.Goals as goal

pub returns-in-Ok-true-clause-ok : goal.returns-in-Ok-true-clause-ok
returns-in-Ok-true-clause-ok g c =
    let is : IsTrue c.in-Ok-true.field-0 = search rules in
    let w = c.in-Ok-true.ensures.taken is in
    rw (← c.self.view_is) (record {
      before = c.in-Some.record_node;
      after = c.take.new.self;
      text = w.text;
      node_before = c.in-Some.is;
      node_after = refl;
      was_taken = w.holds;
      told = w.told;
    })

pub returns-in-Ok-false-clause-refused : goal.returns-in-Ok-false-clause-refused
returns-in-Ok-false-clause-refused g c =
    let is : c.in-Ok-false.field-0 ≡ false = search rules in
    let left = c.in-Ok-false.ensures.left is in
    rw (← c.self.view_is) (c.in-Some.record_node, c.in-Some.is, left.0, rw (left.1, left.2, c.in-Some.is) refl)

pub returns-in-Err-clause-refused : goal.returns-in-Err-clause-refused
returns-in-Err-clause-refused g c =
    let done = c.in-Err.ensures.done in
    rw (← c.self.view_is) (c.in-Some.record_node, done.1.what, c.in-Some.is, done.1.asks, rw (c.take-in-Err.ensures.after, c.clear.ensures.items) refl)
