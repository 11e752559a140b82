-- The event is recorded, and changes nothing.
use Rattle.std.proofs.Common.{ap, ◌∙◌, ◌++◌, ◌∷◌, []}
use Rattle.ring_world.proofs.WorldOfNodes.{idle_world, idle_goes}
use Rattle.ring_world.proofs.world.World.record_event_only.Goals as goal

pub invariant_of-self-2 : goal.invariant_of-self-2
invariant_of-self-2 g c =
    idle_world c.args.event.now c.in_ok-kept.kept c.self.view_is c.requires.same c.in_ok-kept.ensures.ok
    (c.push_reserved.ensures.items ∙ ap (λ es. es ++ c.in_ok-kept.kept ∷ []) c.reserve.ensures.items) (c.in_ok-kept.ensures.keeps c.requires.fits)
    c.self.invariant

pub returns-clause-ok : goal.returns-clause-ok
returns-clause-ok g c =
    idle_goes c.args.event.now c.in_ok-kept.kept c.self.view_is c.requires.same c.in_ok-kept.ensures.ok
    (c.push_reserved.ensures.items ∙ ap (λ es. es ++ c.in_ok-kept.kept ∷ []) c.reserve.ensures.items)
