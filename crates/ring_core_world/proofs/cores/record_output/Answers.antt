-- The places stay those of the frames among the outputs.
use Rattle.std.proofs.Common.{◌∙◌}
use Rattle.ring_base.proofs.Results.{on-ok}
use Rattle.ring_core_world.proofs.FramePlaces.{noted}
use Rattle.ring_core_world.proofs.cores.record_output.Goals as goal

pub returns-clause-places : goal.returns-clause-places
returns-clause-places g c =
    on-ok c.record_send_index-noted.result _ _ (λ more. noted c.args.node c.len.result c.args.out c.args.places.now.items c.record_send_index-noted.new.places.items
    c.args.outs.now.items c.push.new.self.items c.requires (c.len.ensures ∙ c.args.outs.now.ok.0) more c.in_ok-push.ensures.items) c.record_send_index-noted.ensures.ok
