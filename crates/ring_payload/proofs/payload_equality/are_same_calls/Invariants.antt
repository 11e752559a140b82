use Rattle.std.proofs.Common.{◌≡◌, take}
use Rattle.ring_payload.proofs.payload_equality.are_same_calls.Given as goal

abbrev pub invariant-loop-i : goal.invariant-loop-i
invariant-loop-i g l = take l.i l.some ≡ take l.i l.others
