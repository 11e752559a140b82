use Rattle.std.specs.Io.KnownBytes.{Keeps}
use Rattle.ring_record_node.proofs.serving.write_some.Given as goal

-- writes that were interrupted wrote nothing
abbrev pub invariant-loop : goal.invariant-loop
invariant-loop g l = Keeps (g.W.Write.contents l.initial.out) (g.W.Write.contents l.out)
