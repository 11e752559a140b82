use Rattle.std.proofs.Common.{◌≡◌, take}
use Rattle.ring_script.proofs.operation.replace_with_prefix.Given as goal

-- The first bytes so far.
abbrev pub invariant-loop-byte : goal.invariant-loop-byte
invariant-loop-byte g l = l.bytes.items ≡ take l.byte-index l.first
