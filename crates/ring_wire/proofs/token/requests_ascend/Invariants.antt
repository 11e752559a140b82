use Rattle.std.proofs.Common.{◌≡◌, drop}
use Rattle.ring_wire.specs.Ascending.{is_ascending_within as ascends_to}
use Rattle.ring_wire.proofs.token.requests_ascend.Given as goal

-- the rest decides
abbrev pub invariant-loop-index : goal.invariant-loop-index
invariant-loop-index l = ascends_to l.low l.greatest (drop l.index l.numbers) ≡ ascends_to 0 l.greatest l.numbers
