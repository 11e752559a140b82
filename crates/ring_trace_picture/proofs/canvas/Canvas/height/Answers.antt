use Rattle.std.proofs.Common.{ℕ, ◌≡◌, ◌≤◌, ◌+◌, ◌*◌, ◌∙◌, ap, sym, subst, arith}
use Rattle.std.proofs.lemmas.Nat.{mul-le}
use Rattle.ring_trace_picture.proofs.canvas.Canvas.height.Goals as goal

pub returns : goal.returns
returns c = λ few.
    let lanes : 56 * c.args.self.lanes + 74 ≤ 14354 = omega arith in
    let fits : c.legend.result ≤ 14354 * 31 =
    subst (λ (n : ℕ). n ≤ 14354 * 31) (sym (c.legend.ensures few)) (mul-le _ _ 14354 31 lanes (omega (arith, few))) in
    let whole : c.saturating_add.result ≡ c.legend.result + 92 = omega (arith, fits, c.saturating_add.ensures) in
    whole ∙ ap (λ (n : ℕ). n + 92) (c.legend.ensures few)
