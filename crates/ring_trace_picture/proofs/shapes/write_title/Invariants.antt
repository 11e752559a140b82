use Rattle.ring_trace_picture.specs.PictureTexts.{IsGrown}
use Rattle.ring_trace_picture.proofs.shapes.write_title.Given as goal

-- Some text was appended.
abbrev pub invariant-loop-letter : goal.invariant-loop-letter
invariant-loop-letter g l = IsGrown (g.W.Write.contents l.initial.out) (g.W.Write.contents l.out)
