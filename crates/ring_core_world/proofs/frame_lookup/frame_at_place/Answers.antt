use Rattle.std.proofs.Common.{Some, None, ap, ◌∙◌}
use Rattle.ring_core_world.specs.Running.{frame_in_output}
use Rattle.ring_base.proofs.ListPlaces.{item_copied}
use Rattle.ring_core_world.proofs.frame_lookup.frame_at_place.Goals as goal

pub returns-in-Some : goal.returns-in-Some
returns-in-Some g c =
    c.frame_in.ensures ∙ ap (frame_in_output c.args.node) (item_copied c.args.outs.now c.args.place (Some c.in-Some.given) c.in-Some.ensures.lookup)

pub returns-in-None : goal.returns-in-None
returns-in-None g c = ap (frame_in_output c.args.node) (item_copied c.args.outs.now c.args.place None c.in-None.ensures.lookup)
