-- The messages so far are counted.
use Rattle.std.proofs.Common.{◌≡◌, ◌≤◌}
use Rattle.ring_window.specs.Held.{front_of}
use Rattle.ring_recover.proofs.MessagesInFront.{up_to}
use Rattle.ring_recover.proofs.ends.EndCounts.count_front.Given as goal

abbrev pub invariant-loop-before : goal.invariant-loop-before
invariant-loop-before g l = (l.self ≡ up_to l.window.held l.window.ring l.before) × (l.before ≤ front_of l.window.held l.window.ring) ×
    (l.window.mark ≤ l.before)
