-- No number before is left to wrap.
use Rattle.std.proofs.Common.{◌≡◌, ◌+◌, ◌-◌, ◌≤◌}
use Rattle.ring_window.specs.Held.{highest}
use Rattle.ring_recover.specs.RecoveryState.{RecoveryState, next_to_wrap}
use Rattle.ring_recover.proofs.HandedNext.{next_from}
use Rattle.ring_recover.proofs.plan.Plan.to_wrap.Given as goal

abbrev pub invariant-loop-before : goal.invariant-loop-before
invariant-loop-before g l =
    let r : RecoveryState _ = record { me = l.self-inside.me; plan = l.self-inside.plan.value; seen = l.self-inside.seen.value } in
    (next_from r l.window.held (l.before + 1) (highest l.window.held l.window.ring - l.before) ≡ next_to_wrap r l.window.held) × (l.self-inside.low ≤ l.before)
