use Rattle.std.proofs.Common.{◌≡◌, ◌-◌, ◌^◌, min, take}
use Rattle.ring_live.specs.LiveClients.{answered_of}
use Rattle.ring_live.proofs.running.answered_in.Given as goal

-- The sum over the clients so far.
abbrev pub invariant-loop-client_result : goal.invariant-loop-client_result
invariant-loop-client_result l = l.answered ≡ min (2 ^ 64 - 1) (answered_of (take l.client_result-index l.results))
