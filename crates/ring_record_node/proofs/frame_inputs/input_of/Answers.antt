-- A decoded frame keeps the limits.
use Rattle.ring_wire.specs.FrameEncodingLaws.{frame_encoding_of_grammar}
use Rattle.ring_record_node.proofs.frame_inputs.input_of.Goals as goal

pub returns-in-Ok-clause-fits : goal.returns-in-Ok-clause-fits
returns-in-Ok-clause-fits g c = (frame_encoding_of_grammar _ _ c.in-Ok.ensures.found).0
