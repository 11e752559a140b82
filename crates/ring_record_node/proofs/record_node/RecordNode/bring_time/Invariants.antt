use Rattle.ring_clock.proofs.Fewer.{due_count}
use Rattle.ring_record_node.specs.NodeOutputs.{RecordNodeView}
use Rattle.ring_record_node.proofs.TimesBrought.{IsBroughtSoFar}
use Rattle.ring_record_node.proofs.record_node.RecordNode.bring_time.Given as goal

-- timeouts that were due came one after another, and what came of them is written
abbrev pub invariant-loop-kind : goal.invariant-loop-kind
invariant-loop-kind g l =
    let old : RecordNodeView _ = record { group = l.initial.self.group; node = l.initial.self.node; clock = l.initial.self.clock; counts = l.initial.self.counts } in
    let new : RecordNodeView _ = record { group = l.self.group; node = l.self.node; clock = l.self.clock; counts = l.self.counts } in
    IsBroughtSoFar g.O.Object.sequential l.now old l.written (g.W.Write.contents l.initial.out) (g.W.Write.contents l.out) new

-- the number of timeouts that are due
abbrev pub decreases-loop-kind : goal.decreases-loop-kind
decreases-loop-kind g l = due_count l.self.clock l.now
