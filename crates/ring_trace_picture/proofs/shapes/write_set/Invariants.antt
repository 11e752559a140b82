use denote.Text.{Utf8}
use denote.Shadow.{shadow}
use Rattle.ring_trace_picture.specs.PictureTexts.{IsGrown}
use Rattle.ring_trace_picture.proofs.shapes.write_set.Given as goal

-- Some text was appended, and the separator is text.
abbrev pub invariant-loop-node : goal.invariant-loop-node
invariant-loop-node g l =
    (goal.iterator-loop-node g).can_next l.node-iterator ×
    (goal.iterator-loop-node g).is_finite l.node-iterator ×
    shadow (Utf8 l.separator) × IsGrown (g.W.Write.contents l.initial.out) (g.W.Write.contents l.out)
