use Rattle.ring_wire.specs.FrameEncodingLaws.{frame_encoding_of_grammar, text_is_encoding}
use Rattle.ring_wire.proofs.frame.encoding_law.Goals as goal

pub returns : goal.returns
returns g c = λ f text. (frame_encoding_of_grammar f text, λ p. text_is_encoding f text p.0 p.1)
