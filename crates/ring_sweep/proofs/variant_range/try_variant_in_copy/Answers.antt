use Rattle.ring_sweep.proofs.Trying.{is_tried}
use Rattle.ring_sweep.proofs.variant_range.try_variant_in_copy.Goals as goal

pub returns-clause-ok : goal.returns-clause-ok
returns-clause-ok g c =
    is_tried g.O.Object.sequential c.args.script.now.nodes c.args.script.now.lines.items c.is_legal.result c.args.injection
    c.run_variant.new.copy.run c.world.result.now c.in_ok-run_variant.ensures.ok c.world.ensures c.is_legal.ensures.ok
