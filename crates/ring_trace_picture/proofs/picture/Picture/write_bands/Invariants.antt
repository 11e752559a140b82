use Rattle.ring_trace_picture.specs.PictureTexts.{IsGrown}
use Rattle.ring_trace_picture.proofs.picture.Picture.write_bands.Given as goal

-- Some text was appended.
abbrev pub invariant-loop-index : goal.invariant-loop-index
invariant-loop-index g l = IsGrown (g.W.Write.contents l.initial.out) (g.W.Write.contents l.out)
