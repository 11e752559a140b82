-- Copies of the state of Recovery.
use Rattle.std.specs.Prelude.{◌≡◌}
use Rattle.ring_srp_state.specs.declared.recovery_state.RecoveryState.{RecoveryState}

-- The copy equals the original, with a deferred list of its own.
pub record IsCopied {A : Type 0} (before copy : RecoveryState A) : Type 0 where
  pub part : copy.part ≡ before.part
  pub plan : copy.plan ≡ before.plan
  pub ends : copy.ends ≡ before.ends
  pub most : copy.most ≡ before.most
  pub deferred : copy.deferred.items ≡ before.deferred.items
