-- The first clear bit is that of the gap; known numbers are held, so none of them is above the highest held one.
use Rattle.std.proofs.Common.{◌≡◌, ℕ, ◌-◌, ◌<◌, true, sym, ap, ◌∙◌, arith, rules}
use Rattle.std.specs.Prelude.{nat_lt, ◌&&◌}
use Rattle.std.proofs.lemmas.Bool.{ltb-true, and_parts}
use Rattle.ring_window.specs.Bits.{is_set}
use Rattle.ring_window.specs.Held.{highest}
use Rattle.ring_recover.specs.Chosen.{numbers_of_bits}
use Rattle.ring_recover.specs.Deliveries.{is_complete, transitional_part}
use Rattle.ring_recover.specs.RecoveryState.{RecoveryState}
use Rattle.ring_recover.proofs.NumbersPassing.{set_inside}
use Rattle.ring_recover.proofs.Gaps.{transitional_is, implied}
use Rattle.ring_recover.proofs.Planning.{kept_bits, kept_sound, known_reached}
use Rattle.ring_recover.proofs.plan.Plan.transitional_numbers.Goals as goal

pub new-requires : goal.new-requires
new-requires g c = λ j h.
    let reach = c.saturating_sub-reach.result in
    let gap = c.first_clear-gap.result in
    let known = c.self.inside.known.words in
    let l = set_inside c.from_test-below.result.words j (omega arith) h in
    let b : is_set c.from_test-below.result.words j ≡ (nat_lt j reach && (nat_lt j gap && is_set known j)) = c.from_test-below.ensures
    (λ i. nat_lt i reach && (nat_lt i gap && is_set known i)) (λ i r m p. search rules) j l in
    omega (arith, ltb-true j reach (and_parts (nat_lt j reach) (nat_lt j gap && is_set known j) (sym b ∙ h)).0, c.saturating_sub-reach.ensures)

pub returns : goal.returns
returns g c =
    let p = c.self.inside.plan.value in
    let w = c.args.window.now in
    let i = c.self.invariant in
    let reach = c.saturating_sub-reach.result in
    let gap = c.first_clear-gap.result in
    let known = c.self.inside.known.words in
    let told : (j : ℕ) → j < 256 → is_set c.from_test-below.result.words j ≡ (nat_lt j reach && (nat_lt j gap && is_set known j)) = c.from_test-below.ensures
    (λ k. nat_lt k reach && (nat_lt k gap && is_set known k)) (λ k r m q. search rules) in
    let ring : w.ring ≡ p.old = c.requires.ring ∙ sym (ap (λ (r : RecoveryState g.row.A.Denot). r.plan.old) c.self.view_is) in
    let complete : is_complete p w.held ≡ true = ap (λ (r : RecoveryState g.row.A.Denot). is_complete r.plan w.held) c.self.view_is ∙ c.requires.complete in
    let far : reach ≡ highest w.held w.ring - c.self.inside.safe = omega (arith, c.saturating_sub-reach.ensures, c.highest.ensures) in
    let bits : (j : ℕ) → j < 256 → is_set c.from_test-below.result.words j ≡ (nat_lt j gap && is_set known j) = λ j l.
    told j l ∙ implied (nat_lt j reach) (nat_lt j gap) (is_set known j) (λ s. ap (nat_lt j) far ∙ known_reached _ _ _ _ _ _ _ _ _ i w ring complete j l s) in
    c.new.ensures ∙ ap (λ n. numbers_of_bits n c.from_test-below.result.words) i.safe_is
    ∙ transitional_is p known gap (kept_sound _ _ _ _ _ _ _ _ _ i)
    (kept_bits _ _ _ _ _ _ _ _ _ i) c.first_clear-gap.ensures.inside c.first_clear-gap.ensures.first c.from_test-below.result.words bits
    ∙ ap (λ (r : RecoveryState g.row.A.Denot). transitional_part r.plan) c.self.view_is
