-- The remaining frames give the rest of the counts.
use Rattle.std.proofs.Common.{◌≡◌, drop, fold}
use Rattle.ring_counts.specs.Counts.{with_send}
use Rattle.ring_counts.proofs.node_counts.NodeCounts.note_sends.Given as goal

abbrev pub invariant-loop-sent : goal.invariant-loop-sent
invariant-loop-sent g l = fold (with_send l.input) l.self (drop l.sent-index l.sends) ≡ fold (with_send l.input) l.initial.self l.sends
