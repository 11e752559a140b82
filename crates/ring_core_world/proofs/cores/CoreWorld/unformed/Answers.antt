-- The fields at the opening are those of its world.
use Rattle.std.proofs.Common.{ap, ◌∙◌, map, arith}
use Rattle.ring_base.specs.Numbers.{numbers_from}
use Rattle.ring_core_spec.specs.State.{opening}
use Rattle.ring_core_world.proofs.Openings.{opens}
use Rattle.ring_core_world.proofs.cores.CoreWorld.unformed.Goals as goal

pub invariant_of-result : goal.invariant_of-result
invariant_of-result g c =
    let n = c.args.fixed.count in
    opens n c.history_of_unformed-history.result.value c.in_ok-cores.cores.items c.new-outs.result.items c.new-places.result.items c.history_of_unformed-history.ensures
    (c.in_ok-cores.ensures.ok ∙ ap (λ k. map (opening n) (numbers_from 1 k)) c.count-count.ensures.value)
    c.new-outs.ensures.items c.new-places.ensures.items (omega (arith, c.count-count.ensures.value, c.count-count.ensures.in_range.1))
