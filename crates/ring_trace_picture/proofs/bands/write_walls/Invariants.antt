use Rattle.ring_trace_picture.specs.PictureTexts.{IsGrown}
use Rattle.ring_trace_picture.proofs.bands.write_walls.Given as goal

-- Some text was appended.
abbrev pub invariant-loop-placed : goal.invariant-loop-placed
invariant-loop-placed g l = IsGrown (g.W.Write.contents l.initial.out) (g.W.Write.contents l.out)
