use Rattle.ring_trace_picture.specs.PictureTexts.{IsGrown}
use Rattle.ring_trace_picture.proofs.shapes.write_colours.Given as goal

-- Some text was appended.
abbrev pub invariant-loop-colour : goal.invariant-loop-colour
invariant-loop-colour g l = IsGrown (g.W.Write.contents l.initial.out) (g.W.Write.contents l.out)
