-- The call got a ticket or was refused, and that is counted and written.
use Rattle.std.proofs.Common.{ap}
use Rattle.ring_counts.specs.declared.node_counts.NodeCounts.{NodeCounts}
use Rattle.ring_record_node.specs.NodeOutputs.{RecordNodeView}
use Rattle.ring_record_node.proofs.NodeOutputs.{ticket_told, refused_told}
use Rattle.ring_record_node.proofs.record_node.RecordNode.submit_call.Goals as goal

pub returns-in-Ok : goal.returns-in-Ok
returns-in-Ok g c =
    let a = c.args in
    let s = c.self.inside in
    let old : RecordNodeView _ = record { group = s.group; node = s.node; clock = s.clock; counts = s.counts } in
    let after : NodeCounts → RecordNodeView _ = λ n. record { group = s.group; node = c.submit.new.self; clock = s.clock; counts = n } in
    rw (← c.self.view_is) (ticket_told g.O.Object.sequential c.write_ticket_and_end.result _ _ old (after c.note_submit.new.self) a.client a.number
    a.operation.now c.in-Ok.ticket (rw c.in-Ok.is at c.submit.ensures) (ap after c.note_submit.ensures) c.write_ticket_and_end.ensures)

pub returns-in-Err : goal.returns-in-Err
returns-in-Err g c =
    let a = c.args in
    let s = c.self.inside in
    let old : RecordNodeView _ = record { group = s.group; node = s.node; clock = s.clock; counts = s.counts } in
    let after : NodeCounts → RecordNodeView _ = λ n. record { group = s.group; node = c.submit.new.self; clock = s.clock; counts = n } in
    rw (← c.self.view_is) (refused_told g.O.Object.sequential c.write_refusal_and_end.result _ _ old (after c.note_refusal.new.self) a.client a.number
    a.operation.now c.in-Err.fault (rw c.in-Err.is at c.submit.ensures) (ap after c.note_refusal.ensures) c.write_refusal_and_end.ensures)
