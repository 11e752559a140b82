-- The fields at the opening are those of its world.
use Rattle.std.proofs.Common.{◌≤◌, ◌∷◌, ◌-◌, ap, ◌∙◌, map, arith}
use Rattle.ring_base.specs.Numbers.{numbers_from}
use Rattle.ring_core_spec.specs.State.{formed}
use Rattle.ring_core_world.proofs.Forming.{started_one, stands}
use Rattle.ring_core_world.proofs.cores.CoreWorld.formed.Goals as goal

pub opening_frame-first-requires : goal.opening_frame-first-requires
opening_frame-first-requires g c = started_one c.args.fixed.count c.in_ok-core.sent.items c.in_ok-core.ensures.outs

pub invariant_of-result : goal.invariant_of-result
invariant_of-result g c =
    let n = c.args.fixed.count in
    let low : 1 ≤ n = omega (arith, c.count-count.ensures.value, c.count-count.ensures.in_range.0) in
    let most : n ≤ 16 = omega (arith, c.count-count.ensures.value, c.count-count.ensures.in_range.1) in
    stands n c.ring_formed-history.result.value c.in_ok-cores.cores.items c.in_ok-core.core c.in_ok-core.sent.items c.opening_frame-first.result
    c.new-outs.result.items c.new-places.result.items
    low most c.ring_formed-history.ensures
    (c.in_ok-cores.ensures.ok ∙ ap (λ k. c.in_ok-core.core ∷ map (formed {A = g.row.A.Denot} n) (numbers_from 2 (k - 1))) c.count-count.ensures.value)
    c.in_ok-core.ensures.core c.in_ok-core.ensures.outs c.opening_frame-first.ensures c.new-outs.ensures.items c.new-places.ensures.items
