-- Its fields are those of the opening world.
use Rattle.ring_world.proofs.Opening.{opens}
use Rattle.ring_world.proofs.world.World.new.Goals as goal

pub invariant_of-result : goal.invariant_of-result
invariant_of-result g c =
    let kept = c.new.result in
    let none = c.new.ensures in
    opens g.O.Object.sequential c.args.fixed kept.events.items c.in_ok-nodes.nodes.items c.in_ok-spares.spares.items kept.frames.frames
    kept.history.items kept.told.items kept.longest.calls c.count-count.result c.count-count.ensures.value c.count-count.ensures.in_range.1
    none.events c.in_ok-nodes.ensures.ok c.in_ok-spares.ensures.many c.in_ok-spares.ensures.none none.frames none.history none.told none.longest
