-- The numbers between the two marks.
use Rattle.std.proofs.Common.{◌≡◌, ℕ, ◌-◌, ◌<◌, sym, ap, ◌∙◌, arith, rules}
use Rattle.std.specs.Prelude.{nat_lt}
use Rattle.std.proofs.lemmas.Bool.{ltb-true}
use Rattle.ring_window.specs.Bits.{is_set}
use Rattle.ring_recover.specs.Chosen.{numbers_of_bits}
use Rattle.ring_recover.specs.Plans.{safe, least_mark}
use Rattle.ring_recover.specs.Deliveries.{regular_part}
use Rattle.ring_recover.specs.RecoveryState.{RecoveryState}
use Rattle.ring_recover.proofs.NumbersPassing.{set_inside}
use Rattle.ring_recover.proofs.Gaps.{regular_is}
use Rattle.ring_recover.proofs.plan.Plan.regular_numbers.Goals as goal

pub new-requires : goal.new-requires
new-requires g c = λ j h.
    let l = set_inside c.from_test.result.words j (omega arith) h in
    let b : is_set c.from_test.result.words j ≡ nat_lt j c.saturating_sub-count.result = c.from_test.ensures (λ i. nat_lt i c.saturating_sub-count.result)
    (λ i r m p. search rules) j l in
    omega (arith, ltb-true j c.saturating_sub-count.result (sym b ∙ h), c.saturating_sub-count.ensures)

pub returns : goal.returns
returns g c =
    let p = c.self.inside.plan.value in
    let count : c.saturating_sub-count.result ≡ safe p - least_mark p = omega
    (arith, c.saturating_sub-count.ensures, c.self.invariant.safe_is, c.self.invariant.least_is) in
    let bits : (j : ℕ) → j < 256 → is_set c.from_test.result.words j ≡ nat_lt j (safe p - least_mark p) = λ j l. c.from_test.ensures
    (λ i. nat_lt i c.saturating_sub-count.result) (λ i r m q. search rules) j l ∙ ap (nat_lt j) count in
    c.new.ensures ∙ ap (λ n. numbers_of_bits n c.from_test.result.words) c.self.invariant.least_is ∙ regular_is p c.from_test.result.words bits
    ∙ ap (λ (r : RecoveryState g.row.A.Denot). regular_part r.plan) c.self.view_is
