use Rattle.ring_record_node.proofs.Served.{ServesTo}
use Rattle.ring_record_node.proofs.serving.serve_records.Given as goal

-- this number of records is taken, and the node's output for them is written
abbrev pub invariant-loop-taken : goal.invariant-loop-taken
invariant-loop-taken g l =
    ServesTo g.O.Object.sequential l._taken l.at l.initial.node l.node (g.R.Read.remaining l.initial.input) (g.R.Read.remaining l.input)
    (g.W.Write.contents l.initial.out) (g.W.Write.contents l.out)
