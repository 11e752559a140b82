-- One more core is made.
use Rattle.std.proofs.Common.{◌≡◌, map, ap, ◌∙◌, arith}
use Rattle.ring_base.specs.Numbers.{numbers_from}
use Rattle.ring_base.proofs.ListPlaces.{row-push}
use Rattle.ring_core_spec.specs.State.{opening}
use Rattle.ring_core_world.proofs.cores.cores_at_opening.Goals as goal

pub loop-before-preserved : goal.loop-before-preserved
loop-before-preserved g c =
    row-push (opening c.args.fixed.count) c.loop-before.cores.items c.push.new.self.items c.loop-before.before c.in_ok-core.core c.new-me.result
    c.loop-before.invariant c.in_ok-push.ensures.items c.in_ok-core.ensures.ok c.new-me.ensures

pub returns-clause-ok : goal.returns-clause-ok
returns-clause-ok g c =
    let e : c.loop-before.before ≡ c.args.count = omega (arith, c.loop-before-test.false, c.loop-before.auto.before-end) in
    c.loop-before.invariant ∙ ap (λ n. map (opening {A = g.row.A.Denot} c.args.fixed.count) (numbers_from 1 n)) e
