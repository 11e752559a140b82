use Rattle.ring_sweep.proofs.OtherNodes.{AreListed}
use Rattle.ring_sweep.proofs.variant_script.print_other_nodes.Given as goal

-- The nodes so far are listed.
abbrev pub invariant-loop-before : goal.invariant-loop-before
invariant-loop-before g l = AreListed (g.O.Write.contents l.initial.out) (g.O.Write.contents l.out) l.parting l.node l.before
