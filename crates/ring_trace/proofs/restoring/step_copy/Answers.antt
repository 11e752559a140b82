-- The copy makes the step on the frame that the bytes encode. It is refused as stopped only if it has stopped.
use Rattle.std.proofs.Common.{◌≡◌}
use Rattle.ring_wire.specs.FrameEncodingLaws.{frame_encoding_of_grammar}
use Rattle.ring_trace.proofs.restoring.step_copy.Goals as goal

pub step-requires : goal.step-requires
step-requires g c = record { fits = (frame_encoding_of_grammar _ _ c.in_ok-frame.ensures.found).0 }

pub returns-in-Ok-clause-told : goal.returns-in-Ok-clause-told
returns-in-Ok-clause-told g c = record {
  frame = c.in_ok-frame.frame;
  encodes = c.in_ok-frame.ensures.found;
  exact = λ runs. c.in-Ok.ensures.restored;
}

pub returns-in-Err-Stopped-clause-told : goal.returns-in-Err-Stopped-clause-told
returns-in-Err-Stopped-clause-told g c = record {
  frame = c.in_ok-frame.frame;
  encodes = c.in_ok-frame.ensures.found;
  exact = λ runs. let why = rw runs at c.in-Err-Stopped.ensures.refused in absurd (cc why);
}
