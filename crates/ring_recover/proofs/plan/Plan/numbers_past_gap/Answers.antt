-- As below the gap; the window has the sender of a message past it.
use Rattle.std.proofs.Common.{◌≡◌, ℕ, ◌+◌, ◌-◌, ◌<◌, ◌≤◌, true, sym, ap, ◌∙◌, arith, rules}
use Rattle.std.specs.Prelude.{nat_lt, ◌&&◌}
use Rattle.std.proofs.lemmas.Bool.{ltb-true, and_parts}
use Rattle.ring_window.specs.Bits.{is_set}
use Rattle.ring_window.specs.Held.{highest}
use Rattle.ring_window.specs.Windows.{message_above_mark}
use Rattle.ring_recover.specs.Chosen.{numbers_of_bits}
use Rattle.ring_recover.specs.Plans.{safe}
use Rattle.ring_recover.specs.Deliveries.{is_complete, is_from_transitional_member, past_gap_part}
use Rattle.ring_recover.specs.RecoveryState.{RecoveryState, is_sent_by_any}
use Rattle.ring_recover.proofs.NumbersPassing.{set_inside}
use Rattle.ring_recover.proofs.Gaps.{past_gap_is, implied_by}
use Rattle.ring_recover.proofs.Planning.{kept_bits, kept_sound, known_reached, from_mate}
use Rattle.ring_recover.proofs.plan.Plan.numbers_past_gap.Goals as goal

pub new-requires : goal.new-requires
new-requires g c = λ j h.
    let reach = c.saturating_sub-reach.result in
    let gap = c.first_clear-gap.result in
    let known = c.self.inside.known.words in
    let transitional_members = c.self.inside.transitional_members in
    let w = c.args.window.now in
    let l = set_inside c.from_test-history.result.words j (omega arith) h in
    let b : is_set c.from_test-history.result.words j ≡ (nat_lt j reach && (nat_lt gap j && (is_set known j && is_sent_by_any transitional_members (message_above_mark w (c.self.inside.safe + 1 + j))))) =
    c.from_test-history.ensures (λ i. nat_lt i reach && (nat_lt gap i && (is_set known i && is_sent_by_any transitional_members (message_above_mark w (c.self.inside.safe + 1 + i)))))
    (λ i r m p. search rules) j l in
    omega (
      arith,
      ltb-true j reach (and_parts (nat_lt j reach) (nat_lt gap j && (is_set known j && is_sent_by_any transitional_members (message_above_mark w
          (c.self.inside.safe + 1 + j)))) (sym b ∙ h)).0,
      c.saturating_sub-reach.ensures,
    )

pub returns : goal.returns
returns g c =
    let p = c.self.inside.plan.value in
    let w = c.args.window.now in
    let i = c.self.invariant in
    let reach = c.saturating_sub-reach.result in
    let gap = c.first_clear-gap.result in
    let known = c.self.inside.known.words in
    let transitional_members = c.self.inside.transitional_members in
    let high = c.self.inside.safe in
    let told : (j : ℕ) → j < 256 → is_set c.from_test-history.result.words j ≡ (nat_lt j reach && (nat_lt gap j && (is_set known j && is_sent_by_any transitional_members (message_above_mark w
    (high + 1 + j))))) =
    c.from_test-history.ensures (λ k. nat_lt k reach && (nat_lt gap k && (is_set known k && is_sent_by_any transitional_members (message_above_mark w (high + 1 + k))))) (λ k r m q. search rules) in
    let ring : w.ring ≡ p.old = c.requires.ring ∙ sym (ap (λ (r : RecoveryState g.row.A.Denot). r.plan.old) c.self.view_is) in
    let complete : is_complete p w.held ≡ true = ap (λ (r : RecoveryState g.row.A.Denot). is_complete r.plan w.held) c.self.view_is ∙ c.requires.complete in
    let same : safe c.args.self.now.plan ≡ high = sym (ap (λ (r : RecoveryState g.row.A.Denot). safe r.plan) c.self.view_is) ∙ sym i.safe_is in
    let mark : w.mark ≤ high = omega (arith, c.requires.mark, same) in
    let far : reach ≡ highest w.held w.ring - high = omega (arith, c.saturating_sub-reach.ensures, c.highest.ensures) in
    let bits : (j : ℕ) → j < 256 → is_set c.from_test-history.result.words j ≡ (nat_lt gap j && (is_set known j && is_from_transitional_member p w.held (safe p + 1 + j))) = λ j l.
    told j l ∙ implied_by (nat_lt j reach) (nat_lt gap j) (is_set known j) (is_sent_by_any transitional_members (message_above_mark w (high + 1 + j))) (λ s. ap (nat_lt j) far
    ∙ known_reached _ _ _ _ _ _ _ _ _ i w ring complete j l s)
    ∙ ap (λ b. nat_lt gap j && (is_set known j && b)) (from_mate _ _ _ _ _ _ _ _ _ i w ring mark j ∙ ap (λ n. is_from_transitional_member p w.held (n + 1 + j)) i.safe_is) in
    c.new.ensures ∙ ap (λ n. numbers_of_bits n c.from_test-history.result.words) i.safe_is
    ∙ past_gap_is p known gap (kept_sound _ _ _ _ _ _ _ _ _ i)
    (kept_bits _ _ _ _ _ _ _ _ _ i) c.first_clear-gap.ensures.inside c.first_clear-gap.ensures.first w.held c.from_test-history.result.words bits
    ∙ ap (λ (r : RecoveryState g.row.A.Denot). past_gap_part r.plan w.held) c.self.view_is
