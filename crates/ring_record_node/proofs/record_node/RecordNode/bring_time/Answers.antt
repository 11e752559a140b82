-- Timeouts come until none is due, and then the end.
use Rattle.std.proofs.Common.{◌≡◌, None, rules}
use Rattle.ring_record_node.specs.NodeOutputs.{RecordNodeView}
use Rattle.ring_record_node.proofs.TimesBrought.{none_brought, one_more_brought, all_brought, fewer_after}
use Rattle.ring_record_node.proofs.record_node.RecordNode.bring_time.Goals as goal

pub loop-kind-init : goal.loop-kind-init
loop-kind-init g c = none_brought g.O.Object.sequential c.args.now _ _ _

pub loop-kind-preserved : goal.loop-kind-preserved
loop-kind-preserved g c =
    let s = c.self.inside in
    let at : RecordNodeView _ = record { group = s.group; node = s.node; clock = s.clock; counts = s.counts } in
    one_more_brought g.O.Object.sequential c.args.now _ c.loop-kind.written c.time_out-written.result _ _ _ at _ c.in-Some.kind c.next_due.result
    c.next_due.new.self (rw (← c.self.view_is) at c.loop-kind.invariant) c.in-Some.is c.next_due.ensures.due c.next_due.ensures.clock
    c.time_out-written.ensures.before c.time_out-written.ensures.timed

pub loop-kind-smaller : goal.loop-kind-smaller
loop-kind-smaller g c =
    let s = c.self.inside in
    let at : RecordNodeView _ = record { group = s.group; node = s.node; clock = s.clock; counts = s.counts } in
    rw (← c.self.view_is) (fewer_after g.O.Object.sequential c.args.now at at _ c.in-Some.kind c.time_out-written.ensures.timed.text c.next_due.result
    c.next_due.new.self c.in-Some.is c.next_due.ensures.due c.next_due.ensures.clock c.time_out-written.ensures.timed.holds)

pub returns : goal.returns
returns g c =
    let s = c.self.inside in
    let last : RecordNodeView _ = record { group = s.group; node = s.node; clock = s.clock; counts = s.counts } in
    let none : c.next_due.result ≡ None = search rules in
    all_brought g.O.Object.sequential c.args.now _ c.loop-kind.written c.write_end_after.result _ _ _ last c.next_due.result c.next_due.new.self
    (rw (← c.self.view_is) at c.loop-kind.invariant) none c.next_due.ensures.due c.next_due.ensures.clock c.write_end_after.ensures.before
    c.write_end_after.ensures.ended
