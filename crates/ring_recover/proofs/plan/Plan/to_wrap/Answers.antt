-- Number by number, up to the first that is left to wrap.
use Rattle.std.proofs.Common.{◌≡◌, ◌+◌, ◌<◌, ◌≤◌, true, false, refl, sym, ap, ◌∙◌, arith}
use Rattle.std.specs.Prelude.{not, ◌&&◌}
use Rattle.ring_window.specs.Held.{highest}
use Rattle.ring_window.specs.Windows.{message_above_mark}
use Rattle.ring_recover.specs.Plans.{safe}
use Rattle.ring_recover.specs.RecoveryState.{RecoveryState, is_user_message, next_to_wrap}
use Rattle.ring_recover.proofs.HandedNext.{is_left, search_on, search_ends, left_here, neither}
use Rattle.ring_recover.proofs.plan.Plan.to_wrap.Goals.{else-not-contains_offset-via-then-not-contains_offset+else-has_user_message, else-not-contains_offset-via-else-not-contains_offset}
use Rattle.ring_recover.proofs.plan.Plan.to_wrap.Goals as goal

pub returns-then-has_user_message : goal.returns-then-has_user_message
returns-then-has_user_message g c =
    let r : RecoveryState g.row.A.Denot = record { me = c.self.inside.me; plan = c.self.inside.plan.value; seen = c.self.inside.seen.value } in
    let w = c.args.window.now in
    let k = c.loop-before.before in
    let high = c.self.inside.safe in
    let same : high ≡ safe c.args.self.now.plan = c.self.invariant.safe_is ∙ ap (λ (x : RecoveryState g.row.A.Denot). safe x.plan) c.self.view_is in
    let ring = c.requires.ring ∙ sym (ap (λ (x : RecoveryState g.row.A.Denot). x.plan.old) c.self.view_is) in
    let top : k < highest w.held w.ring = omega (arith, c.loop-before-test.true, c.highest-before-end.ensures) in
    let here : is_left r w.held (k + 1) ≡ (true && not false) =
    left_here r _ _ _ high _ _ c.self.inside.wrapped.words _ w k true false c.self.invariant ring (omega
    (arith, c.requires.mark, same)) c.loop-before.invariant.1 (omega (arith, c.requires.near, same))
    (sym c.if-has_user_message.true ∙ c.has_user_message.ensures) (sym c.if-not-contains_offset.true ∙ c.contains_offset.ensures) in
    sym (search_ends r w.held k (highest w.held w.ring) top here) ∙ c.loop-before.invariant.0
    ∙ ap (λ (x : RecoveryState g.row.A.Denot). next_to_wrap x w.held) c.self.view_is

pub loop-before-preserved : goal.loop-before-preserved
loop-before-preserved g c =
    let r : RecoveryState g.row.A.Denot = record { me = c.self.inside.me; plan = c.self.inside.plan.value; seen = c.self.inside.seen.value } in
    let w = c.args.window.now in
    let k = c.loop-before.before in
    let high = c.self.inside.safe in
    let same : high ≡ safe c.args.self.now.plan = c.self.invariant.safe_is ∙ ap (λ (x : RecoveryState g.row.A.Denot). safe x.plan) c.self.view_is in
    let ring = c.requires.ring ∙ sym (ap (λ (x : RecoveryState g.row.A.Denot). x.plan.old) c.self.view_is) in
    let top : k < highest w.held w.ring = omega (arith, c.loop-before-test.true, c.highest-before-end.ensures) in
    let mark : w.mark ≤ high = omega (arith, c.requires.mark, same) in
    let near : k < high + 256 = omega (arith, c.requires.near, same) in
    elim c.else-not-contains_offset.branch [
      | else-not-contains_offset-via-then-not-contains_offset+else-has_user_message v ↦ (
        sym (search_on r w.held k (highest w.held w.ring) top
            (left_here r _ _ _ high _ _ c.self.inside.wrapped.words _ w k false false c.self.invariant ring mark c.loop-before.invariant.1 near
            (sym v.if-has_user_message.false ∙ v.has_user_message.ensures) (sym v.if-not-contains_offset.true ∙ c.contains_offset.ensures))) ∙ c.loop-before.invariant.0,
        omega (arith, c.loop-before.invariant.1),
      )
      | else-not-contains_offset-via-else-not-contains_offset v ↦ (
        sym (search_on r w.held k (highest w.held w.ring) top (left_here r _ _ _ high _ _ c.self.inside.wrapped.words _ w k (is_user_message (message_above_mark w
            (k + 1))) true c.self.invariant ring mark c.loop-before.invariant.1 near
            refl (sym v.if-not-contains_offset.false ∙ c.contains_offset.ensures) ∙ neither (is_user_message (message_above_mark w (k + 1))))) ∙ c.loop-before.invariant.0,
        omega (arith, c.loop-before.invariant.1),
      )
    ]
