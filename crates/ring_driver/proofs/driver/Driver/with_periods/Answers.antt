-- The opening is within the limits, and nothing was sent.
use Rattle.std.proofs.Common.{◌≤◌, List, subst, sym, arith}
use Rattle.ring_order_proof.specs.NodeFits.{NodeFits, SendsFit}
use Rattle.ring_driver.proofs.driver.Driver.with_periods.Goals as goal

pub invariant_of-result : goal.invariant_of-result
invariant_of-result g c =
    let within = c.in_ok-proc.ensures.ok in
    let few : c.args.group.count ≤ 16 = omega (arith, c.count.ensures.value, c.count.ensures.in_range.1) in (
      subst NodeFits (sym c.in_ok-node.ensures.ok)
          (c.node_fits_law.ensures.opening c.args.group c.in_ok-proc.field-0 (omega (arith, within.0.0, within.1)) (omega (arith, within.0.1, within.1)) few),
      subst (λ (xs : List _). SendsFit xs) (sym c.new-3.ensures.items) tt,
    )
