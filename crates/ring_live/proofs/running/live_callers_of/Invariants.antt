use Rattle.std.specs.Prelude.{◌≡◌, All, length}
use Rattle.ring_client_threads.specs.Arguments.{IsNode}
use Rattle.ring_live.proofs.running.live_callers_of.Given as goal

-- A client for each node so far, whose number is one of the group's.
abbrev pub invariant-loop-before : goal.invariant-loop-before
invariant-loop-before g l = (length l.callers.items ≡ l.before) × All (λ caller. IsNode l.nodes caller.number) l.callers.items
