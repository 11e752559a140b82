-- The bytes are the input decoded from them, or memory was refused.
use Rattle.std.proofs.Common.{inl, inr}
use Rattle.ring_record_node.proofs.Writing.{tells_as}
use Rattle.ring_record_node.proofs.record_node.RecordNode.receive_frame.Goals as goal

pub returns-in-Some : goal.returns-in-Some
returns-in-Some g c = tells_as c.step_and_write.result _ _ _ _ (λ text did. inl (c.in-Some.input, c.in-Some.ensures.heard, did)) c.step_and_write.ensures

pub returns-in-None : goal.returns-in-None
returns-in-None g c = tells_as c.stop_without_memory.result _ _ _ _ (λ text did. inr did) c.stop_without_memory.ensures
