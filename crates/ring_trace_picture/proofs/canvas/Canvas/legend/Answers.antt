use Rattle.std.proofs.Common.{◌≡◌, ◌≤◌, ◌*◌, ◌∙◌, arith}
use Rattle.std.proofs.lemmas.Nat.{mul-le}
use Rattle.ring_trace_picture.proofs.canvas.Canvas.legend.Goals as goal

pub returns : goal.returns
returns c = λ few.
    let fits : c.bottom.result * c.bands.result ≤ 14354 * 31 =
    mul-le _ _ 14354 31 (omega (arith, c.bottom.ensures)) (omega (arith, c.bands.ensures, few)) in
    let whole : c.saturating_mul.result ≡ c.bottom.result * c.bands.result = omega (arith, fits, c.saturating_mul.ensures) in
    whole ∙ (λ i. c.bottom.ensures i * c.bands.ensures i)
