-- The user messages so far are deferred.
use Rattle.std.proofs.Common.{◌≡◌}
use Rattle.ring_srp_state.specs.Setting.{HasDeferred}
use Rattle.ring_srp_state.proofs.recovery_state.RecoveryState.defer_messages.Given as goal

abbrev pub invariant-loop-before : goal.invariant-loop-before
invariant-loop-before g l = (l.self.most ≡ l.before) × HasDeferred l.fn.self l.self
