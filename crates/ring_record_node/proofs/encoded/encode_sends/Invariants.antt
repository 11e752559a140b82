use Rattle.std.proofs.Common.{◌≡◌, take}
use Rattle.ring_record_node.specs.NodeOutputs.{sends_text}
use Rattle.ring_record_node.proofs.encoded.encode_sends.Given as goal

-- the frames so far are encoded
abbrev pub invariant-loop-sent : goal.invariant-loop-sent
invariant-loop-sent g l = l.records.items ≡ sends_text (take l.sent-index l.sends)
