-- The node has stopped, whether or not memory was refused.
use Rattle.std.proofs.Common.{◌-◌, refl, ap, ◌∙◌}
use Rattle.ring_node_spec.specs.Worlds.{world_after_event, world_after_stop_if_member}
use Rattle.ring_world.specs.WorldView.{world_of}
use Rattle.ring_world.proofs.NodePlaces.{Stands, stands, unknown, roomy}
use Rattle.ring_world.proofs.WorldOfNodes.{stop_world, stop_goes}
use Rattle.ring_world.proofs.world.World.stop_and_record.Given.{Over}
use Rattle.ring_world.proofs.world.World.stop_and_record.Goals.{After-reserve}
use Rattle.ring_world.proofs.world.World.stop_and_record.Goals as goal

-- the node's place in the list, once there is room
place : (g : Over) (c : After-reserve g) → Stands g.O.Object.sequential
    (record { group = c.self.inside.fixed; events = c.reserve.new.self.items; told = c.self.inside.run_record.told.items; done = c.self.inside.done })
    c.args.self.now c.self.inside.nodes.items c.self.inside.spares.items c.self.inside.run_record.frames.frames c.self.inside.run_record.history.items
    c.self.inside.run_record.longest.calls c.args.node (c.from-place.result - 1)
place g c =
    let there = stands c.self.view_is c.self.invariant c.number.ensures.value c.number.ensures.in_range c.from-place.ensures
    c.self.inside.nodes.ok.0 c.len.ensures c.if-place-len.false in
    roomy there c.reserve.ensures.items refl refl refl refl

pub record_event_only-requires-clause-same : goal.record_event_only-requires-clause-same
record_event_only-requires-clause-same g c =
    let object = g.O.Object.sequential in
    let none = unknown c.self.view_is c.self.invariant c.number.ensures.value c.number.ensures.in_range c.from-place.ensures
    c.self.inside.nodes.ok.0 c.len.ensures c.if-place-len.true in
    ap (world_after_event object (world_of object c.args.self.now)) c.requires ∙ ap (λ b. world_after_stop_if_member b (world_of object c.args.self.now) c.args.node) none

pub invariant_of-self-2 : goal.invariant_of-self-2
invariant_of-self-2 g c =
    stop_world (place g (goal.at.invariant_of-self-2 g c).After-reserve) c.index_mut.ensures.value c.stop_node.ensures c.push_reserved.ensures.items

pub returns-clause-ok : goal.returns-clause-ok
returns-clause-ok g c = stop_goes (place g (goal.at.returns-clause-ok g c).After-reserve) c.requires c.push_reserved.ensures.items
