use Rattle.std.proofs.Common.{ap}
use Rattle.ring_counts.specs.declared.node_counts.NodeCounts.{NodeCounts}
use Rattle.ring_node_spec.specs.declared.input.Input.TheVariants.{Noise}
use Rattle.ring_record_node.specs.NodeOutputs.{RecordNodeView}
use Rattle.ring_record_node.proofs.IsStepOrRefusal.{refused}
use Rattle.ring_record_node.proofs.NodeOutputs.{halt_told}
use Rattle.ring_record_node.proofs.record_node.RecordNode.stop_without_memory.Goals as goal

pub returns : goal.returns
returns g c =
    let s = c.self.inside in
    let h = c.stop_node-fault in
    let old : RecordNodeView _ = record { group = s.group; node = s.node; clock = s.clock; counts = s.counts } in
    let after : NodeCounts → RecordNodeView _ = λ n. record { group = s.group; node = h.new.self; clock = s.clock; counts = n } in
    rw (← c.self.view_is) (halt_told g.O.Object.sequential c.write_refusal_and_end.result _ _ old (after c.note_refusal.new.self) h.result
    (refused g.O.Object.sequential s.node h.new.self Noise h.result h.ensures.stopped h.ensures.refused, ap after c.note_refusal.ensures)
    c.write_refusal_and_end.ensures)
