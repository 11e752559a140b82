use Rattle.std.proofs.Common.{◌≡◌, drop}
use Rattle.ring_log.specs.Heads.{chosen_head}
use Rattle.ring_log.proofs.heads.chosen_head.Given as goal

-- the greatest Head so far, continued over the rest, gives the same as the first one does
abbrev pub invariant-loop-received_head : goal.invariant-loop-received_head
invariant-loop-received_head l = chosen_head l.best (drop l.received_head-index l.rest) ≡ chosen_head l.fn.first l.rest
