-- The bit of a number says whether it was seen wrapped.
use Rattle.std.proofs.Common.{◌≡◌, ℕ, suc, ◌+◌, ◌-◌, ◌<◌, ◌≤◌, refl, sym, ap, ◌∙◌, arith}
use Rattle.ring_recover.specs.Plans.{safe}
use Rattle.ring_recover.specs.RecoveryState.{RecoveryState}
use Rattle.ring_recover.specs.Wrapping.{is_wrapped}
use Rattle.ring_recover.proofs.plan.Plan.has_wrapped.Goals as goal

-- the index of a number among the 256
offset : (high n : ℕ) → high < n → high + 1 + (n - high - 1) ≡ n
offset high n l = omega (arith, l)

pub returns : goal.returns
returns g c =
    let r : RecoveryState g.row.A.Denot = record { me = c.self.inside.me; plan = c.self.inside.plan.value; seen = c.self.inside.seen.value } in
    let n = c.args.number in
    let high = c.self.inside.safe in
    let same : high ≡ safe c.args.self.now.plan = c.self.invariant.safe_is ∙ ap (λ (x : RecoveryState g.row.A.Denot). safe x.plan) c.self.view_is in
    let low : high < n = omega (arith, c.requires.low, same) in
    let near : n - high - 1 < 256 = omega (arith, c.requires.high, same, low) in
    c.contains_offset.ensures ∙ c.self.invariant.wrapped_is (n - high - 1) near ∙ ap (λ m. is_wrapped r.seen r.plan.old m) (offset high n low)
    ∙ ap (λ (x : RecoveryState g.row.A.Denot). is_wrapped x.seen x.plan.old n) c.self.view_is
