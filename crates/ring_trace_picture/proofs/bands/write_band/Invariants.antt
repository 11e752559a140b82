use Rattle.ring_trace_picture.specs.PictureTexts.{IsGrown}
use Rattle.ring_trace_picture.proofs.bands.write_band.Given as goal

-- Some text was appended.
abbrev pub invariant-loop-before : goal.invariant-loop-before
invariant-loop-before g l = IsGrown (g.W.Write.contents l.initial.out) (g.W.Write.contents l.out)

abbrev pub invariant-loop-before-2 : goal.invariant-loop-before-2
invariant-loop-before-2 g l = IsGrown (g.W.Write.contents l.initial.out) (g.W.Write.contents l.out)
