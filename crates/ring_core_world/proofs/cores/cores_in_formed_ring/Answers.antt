-- One more processor is in the ring.
use Rattle.std.proofs.Common.{◌≡◌, ◌∷◌, ◌-◌, map, ap, ◌∙◌, arith}
use Rattle.ring_base.specs.Numbers.{numbers_from}
use Rattle.ring_core_spec.specs.State.{formed}
use Rattle.ring_core_world.proofs.Forming.{joined_more, met}
use Rattle.ring_core_world.proofs.cores.cores_in_formed_ring.Goals as goal

pub loop-before-preserved : goal.loop-before-preserved
loop-before-preserved g c =
    joined_more (formed c.args.fixed.count) c.args.representative c.loop-before.cores.items c.push-in-loop-before.new.self.items c.loop-before.before
    c.in_ok-core.core c.new-me.result
    (omega (arith, c.loop-before.auto.before)) c.loop-before.invariant c.in_ok-push-2.ensures.items c.in_ok-core.ensures.ok c.new-me.ensures

pub returns-clause-ok : goal.returns-clause-ok
returns-clause-ok g c =
    let e : c.loop-before.before ≡ c.args.count = met c.loop-before.before c.args.count (c.loop-before.auto.before-end c.requires.some)
    c.loop-before-test.false in
    c.loop-before.invariant ∙ ap (λ n. c.args.representative ∷ map (formed {A = g.row.A.Denot} c.args.fixed.count) (numbers_from 2 (n - 1))) e
