use Rattle.std.proofs.Common.{◌≡◌, ◌+◌, drop}
use Rattle.ring_payload.specs.Packs.{calls_bytes}
use Rattle.ring_payload.proofs.calls.is_within_pack_bytes.Given as goal

-- the bytes of the calls so far and the bytes left are all that a pack has after its tag and count
abbrev pub invariant-loop-call : goal.invariant-loop-call
invariant-loop-call g l = 7274 + calls_bytes (drop l.call-index l.calls) ≡ calls_bytes l.calls + l.left
