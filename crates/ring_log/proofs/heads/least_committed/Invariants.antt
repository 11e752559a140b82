use Rattle.std.proofs.Common.{◌≡◌, drop}
use Rattle.ring_log.specs.Heads.{least_committed}
use Rattle.ring_log.proofs.heads.least_committed.Given as goal

-- the least length so far, continued over the rest, gives the same as the first one does
abbrev pub invariant-loop-received_head : goal.invariant-loop-received_head
invariant-loop-received_head l = least_committed l.least (drop l.received_head-index l.rest) ≡ least_committed l.fn.first l.rest
