use Rattle.std.proofs.Common.{arith, ap, length}
use Rattle.ring_wire.specs.Frames.{length-frame}
use Rattle.ring_wire.specs.FrameEncodingLaws.{frame_encoding_of_grammar}
use Rattle.ring_wire.proofs.frame.frame_length_law.Goals as goal

pub returns : goal.returns
returns g c = λ f a encodes. let s = frame_encoding_of_grammar f a encodes in omega (arith, length-frame f s.0, ap length s.1)
