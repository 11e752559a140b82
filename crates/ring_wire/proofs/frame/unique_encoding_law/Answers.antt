use Rattle.std.proofs.Common.{ap, sym, ◌∙◌}
use Rattle.ring_wire.specs.Prefixes.{same_prefix}
use Rattle.ring_wire.specs.Frames.{encoding_of, frame_format}
use Rattle.ring_wire.specs.FrameEncodingLaws.{frame_encoding_of_grammar}
use Rattle.ring_wire.proofs.frame.unique_encoding_law.Goals as goal

pub returns : goal.returns
returns g c = λ f g a b x y p q e.
    let s = frame_encoding_of_grammar f a p in
    let t = frame_encoding_of_grammar g b q in
    let h = same_prefix frame_format f g x y s.0 t.0 (rw (s.1, t.1) at e) in
    (h.0, s.1 ∙ ap encoding_of h.0 ∙ sym t.1)
