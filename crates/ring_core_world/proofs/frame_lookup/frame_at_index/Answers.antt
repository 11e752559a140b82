use Rattle.std.proofs.Common.{Some, None, slice_get, ap, sym, ◌∙◌}
use Rattle.ring_core_world.proofs.FramePlaces.{given_at, missing_from}
use Rattle.ring_base.proofs.ListPlaces.{item_copied}
use Rattle.ring_core_spec.specs.State.{frame_for}
use Rattle.ring_core_world.proofs.frame_lookup.frame_at_index.Goals as goal

pub returns-in-Some : goal.returns-in-Some
returns-in-Some g c =
    c.frame_at_place.ensures
    ∙ given_at c.args.node c.args.outs.now c.args.index c.in-Some.place.now
    (ap (λ ps. slice_get ps c.args.index) (sym c.requires)
    ∙ sym (item_copied c.args.places.now c.args.index (Some c.in-Some.place) c.in-Some.ensures.lookup))

pub returns-in-None : goal.returns-in-None
returns-in-None g c =
    sym (ap (frame_for c.args.node)
    (missing_from 0 c.args.outs.now c.args.index
    (ap (λ ps. slice_get ps c.args.index) (sym c.requires) ∙ sym (item_copied c.args.places.now c.args.index None c.in-None.ensures.lookup))))
