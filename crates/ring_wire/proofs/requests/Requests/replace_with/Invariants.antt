use Rattle.std.proofs.Common.{◌≡◌, take}
use Rattle.ring_wire.proofs.requests.Requests.replace_with.Given as goal

-- the numbers so far
abbrev pub invariant-loop-index : goal.invariant-loop-index
invariant-loop-index l = l.self-inside.numbers.items ≡ take l.index l.numbers
