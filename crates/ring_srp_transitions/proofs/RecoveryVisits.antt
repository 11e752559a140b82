-- The state of Recovery decides which payloads a visit sends there.
use Rattle.std.proofs.Common.{◌≡◌, ℕ, ◌+◌, ◌≤◌, List, [], ◌∷◌, ◌++◌, filter_map, ap, ◌∙◌, sym, subst, arith}
use Rattle.std.specs.Prelude.{if◌then◌else◌}
use Rattle.ring_payload.specs.declared.content.Payload.TheVariants.{End}
use Rattle.ring_wire.specs.declared.message.Message.{Message}
use Rattle.ring_window.specs.Held.{of_ring, highest}
use Rattle.ring_window.specs.Windows.{WindowHistory}
use Rattle.ring_window.proofs.OfRing.{highest_of_ring}
use Rattle.ring_token.specs.Histories.{TokenHistory}
use Rattle.ring_recover.specs.Plans.{safe}
use Rattle.ring_recover.specs.RecoveryState.{RecoveryState as Seen}
use Rattle.ring_recover.specs.Wrapping.{wrap, has_own_end, wraps_and_end}
use Rattle.ring_recover.proofs.AllRings.{left_of_ring}
use Rattle.ring_core_spec.specs.State.{Core}
use Rattle.ring_core_spec.specs.Views.{plan}
use Rattle.ring_srp_transitions.specs.RunningCores.{IsPart, Recovers, window_of}
use Rattle.ring_srp_state.specs.declared.recovery_state.RecoveryState.{RecoveryState}
use Rattle.ring_srp_state.specs.Wraps.{left_and_end}

module _ {A : Type 0} (c : Core A) (w : WindowHistory A) (v : TokenHistory A) (r : RecoveryState A) (p : IsPart c c.installed.ring w v) (m : Recovers c r) where
  pub wrap_ring : w.ring ≡ r.plan.plan.old
  wrap_ring = ap (λ (u : WindowHistory A). u.ring) p.window_is ∙ sym (ap (λ (s : Seen A). s.plan.old) m.plan_is)

  pub wrap_mark : w.mark ≤ safe r.plan.plan
  wrap_mark = subst (λ (u : WindowHistory A). u.mark ≤ safe r.plan.plan) (sym p.window_is)
      (subst (λ (s : Seen A). (window_of c c.installed.ring).mark ≤ safe s.plan) (sym m.plan_is) m.old_safe)

  pub wrap_near : highest w.held w.ring ≤ safe r.plan.plan + 256
  wrap_near =
      let h : highest w.held w.ring ≡ highest c.held c.installed.ring = ap (λ (u : WindowHistory A). highest u.held u.ring) p.window_is
      ∙ highest_of_ring c.held c.installed.ring in
      let s : safe r.plan.plan ≡ safe (plan c) = ap (λ (s : Seen A). safe s.plan) m.plan_is in
      within _ _ _ _ _ h s p.near m.old_safe
    where
      within : (a b k n o : ℕ) → a ≡ b → n ≡ o → b ≤ k + 256 → k ≤ o → a ≤ n + 256
      within a b k n o e f l j = omega (arith, e, f, l, j)

  pub wrap_all : left_and_end r.plan w.held ≡ wraps_and_end c.me (plan c) c.running.ring c.held
  wrap_all =
      ap (λ (u : WindowHistory A). left_and_end r.plan u.held) p.window_is
      ∙ ap (λ (s : Seen A). left_and_end s (of_ring c.installed.ring c.held)) m.plan_is
      ∙ ap (λ (xs : List (Message A)). filter_map wrap xs ++ (if has_own_end c.me (of_ring c.running.ring c.held) then [] else End ∷ []))
      (left_of_ring (plan c) (of_ring c.running.ring c.held) c.held)
