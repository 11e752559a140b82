-- The parts of a core's rings and the state of Recovery also fit the core when they are copied.
use Rattle.std.proofs.Common.{◌≡◌, Option, Some, None, refl, ◌∙◌}
use Rattle.std.specs.Option.{MatchOption, IsSomeAnd}
use Rattle.ring_window.specs.Windows.{WindowHistory}
use Rattle.ring_token.specs.Histories.{TokenHistory}
use Rattle.ring_join.specs.Gatherers.{Gatherer}
use Rattle.ring_srp_state.specs.declared.recovery_state.RecoveryState.{RecoveryState}
use Rattle.ring_srp_state.specs.Copies.{IsCopied}
use Rattle.ring_core_spec.specs.State.{Core}
use Rattle.ring_srp_transitions.specs.RunningCores.{Recovers, IsRecovering, IsRunningCore}
use Rattle.ring_srp_transitions.proofs.KeptByTransitions.{machine_as}

abbrev pub IsCopiedIf : {A : Type 0} → Option (RecoveryState A) → Option (RecoveryState A) → Type 0
IsCopiedIf recovery copy = MatchOption recovery (copy ≡ None) (λ kept. IsSomeAnd copy (IsCopied kept))

recovers_copied : {A : Type 0} (c : Core A) (kept copy : RecoveryState A) → IsCopied kept copy → Recovers c kept → Recovers c copy
recovers_copied c kept copy same h = record {
  part = rw same.part h.part;
  plan_is = same.plan ∙ h.plan_is;
  ends_is = same.ends ∙ h.ends_is;
  deferred_is = rw (same.deferred, same.most) h.deferred_is;
  deferred_in_front = rw same.most h.deferred_in_front;
  deferred_covers_mark = rw same.most h.deferred_covers_mark;
  deferred_covers_aru = rw same.most h.deferred_covers_aru;
  old_safe = h.old_safe;
}

recovering_copied : {A : Type 0} (c : Core A) (recovery copy : Option (RecoveryState A)) → IsCopiedIf recovery copy → IsRecovering c recovery → IsRecovering c copy
recovering_copied c None copy same h = absurd h
recovering_copied c (Some kept) None same h = same
recovering_copied c (Some kept) (Some copy) same h = recovers_copied c kept copy same h

none_copied : {A : Type 0} (recovery copy : Option (RecoveryState A)) → IsCopiedIf recovery copy → recovery ≡ None → copy ≡ None
none_copied None copy same none = same
none_copied (Some kept) copy same none = cc

-- the core's invariant, once all but the state of Recovery is known to be equal
pub machine_copied : {A : Type 0} {c : Core A} {gather : Gatherer} {window : WindowHistory A} {visit : TokenHistory A} {recovery copy : Option (RecoveryState A)}
    → IsCopiedIf recovery copy → IsRunningCore c gather window visit recovery → IsRunningCore c gather window visit copy
machine_copied {c} {recovery} {copy} same h =
    machine_as h refl refl h.kept h.below (λ state. recovering_copied c recovery copy same (h.recovery_state state))
    (λ other. none_copied recovery copy same (h.over other))
