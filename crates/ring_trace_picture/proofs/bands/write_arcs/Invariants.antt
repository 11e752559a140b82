use Rattle.ring_trace_picture.specs.PictureTexts.{IsGrown}
use Rattle.ring_trace_picture.proofs.bands.write_arcs.Given as goal

-- Some text was appended.
abbrev pub invariant-loop-arc : goal.invariant-loop-arc
invariant-loop-arc g l = IsGrown (g.W.Write.contents l.initial.out) (g.W.Write.contents l.out)
