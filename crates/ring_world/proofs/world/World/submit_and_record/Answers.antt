-- A submit gives a ticket, whose call has a second copy; or it is refused, and its refusal is recorded.
use Rattle.std.proofs.Common.{◌-◌, ◌<◌, ap, ◌∙◌, sym, subst}
use Rattle.ring_node_spec.specs.Worlds.{world_after_event, world_after_submit_if_member}
use Rattle.ring_world.specs.WorldView.{WorldView, world_of}
use Rattle.ring_world.specs.SpareCalls.{SpareCalls}
use Rattle.ring_world.proofs.NodePlaces.{Stands, stands, unknown, roomy, spared, spare_put}
use Rattle.ring_world.proofs.WorldOfNodes.{issue_world, issue_goes, refusal_world, refusal_goes}
use Rattle.ring_world.proofs.world.World.submit_and_record.Given.{Over}
use Rattle.ring_world.proofs.world.World.submit_and_record.Goals.{In_ok-make_room}
use Rattle.ring_world.proofs.world.World.submit_and_record.Goals as goal

-- the node's place in the list, once there is room
place : (g : Over) (c : In_ok-make_room g) → Stands g.O.Object.sequential
    (record { group = c.self.inside.fixed; events = c.make_room.new.self.events.items; told = c.make_room.new.self.told.items; done = c.self.inside.done })
    c.args.self.now c.self.inside.nodes.items c.self.inside.spares.items c.make_room.new.self.frames.frames c.make_room.new.self.history.items
    c.make_room.new.self.longest.calls c.args.node (c.from-place.result - 1)
place g c =
    let there = stands c.self.view_is c.self.invariant c.number.ensures.value c.number.ensures.in_range c.from-place.ensures
    c.self.inside.nodes.ok.0 c.len.ensures c.if-place-len.false in
    let room = c.in_ok-make_room.ensures in
    roomy there room.events room.told room.history room.frames room.longest

pub record_event_only-requires-clause-same : goal.record_event_only-requires-clause-same
record_event_only-requires-clause-same g c =
    let object = g.O.Object.sequential in
    let none = unknown c.self.view_is c.self.invariant c.number.ensures.value c.number.ensures.in_range c.from-place.ensures
    c.self.inside.nodes.ok.0 c.len.ensures c.if-place-len.true in
    ap (world_after_event object (world_of object c.args.self.now)) c.requires.event
    ∙ ap (λ b. world_after_submit_if_member b (world_of object c.args.self.now) c.args.node c.args.call.now) none

pub invariant_of-self-in_err-make_room-2 : goal.invariant_of-self-in_err-make_room-2
invariant_of-self-in_err-make_room-2 g c =
    let here = place g (goal.at.invariant_of-self-in_err-make_room-2 g c).In_ok-make_room in
    (spared here c.make_room-2.new.self c.index_mut.ensures.value c.in_err-make_room-2.ensures.calls).world

pub invariant_of-self-in_err-copies : goal.invariant_of-self-in_err-copies
invariant_of-self-in_err-copies g c =
    let here = place g (goal.at.invariant_of-self-in_err-copies g c).In_ok-make_room in
    (spared here c.make_room-2.new.self c.index_mut.ensures.value c.in_ok-make_room-2.ensures.calls).world

pub record_submit-requires-clause-spares_room : goal.record_submit-requires-clause-spares_room
record_submit-requires-clause-spares_room g c =
    let same = spare_put (place g (goal.at.record_submit-requires-clause-spares_room g c).In_ok-make_room) c.make_room-2.new.self c.index_mut-in-Ok.ensures.value in
    subst (λ (x : SpareCalls g.row.O-Alloc.Denot). 0 < x.places) (sym same) c.in_ok-make_room-2.ensures.room

pub invariant_of-self-in-Ok : goal.invariant_of-self-in-Ok
invariant_of-self-in-Ok g c =
    let here = place g (goal.at.invariant_of-self-in-Ok g c).In_ok-make_room in
    let spare = spared here c.make_room-2.new.self c.index_mut.ensures.value c.in_ok-make_room-2.ensures.calls in
    let copies = c.in_ok-copies.ensures in
    issue_world spare c.in_ok-copies.copies.event c.requires.event copies.event c.index_mut-2.ensures.value c.record_submit.new.spares
    (copies.keeps c.requires.fits) c.in-Ok.ensures.taken c.in-Ok.ensures.ok c.index_mut-in-Ok.ensures.value copies.spare c.record_submit.ensures.spares
    copies.call c.record_submit.ensures.history c.record_submit.ensures.events

pub returns-in-Ok-clause-ok : goal.returns-in-Ok-clause-ok
returns-in-Ok-clause-ok g c =
    let here = place g (goal.at.returns-in-Ok-clause-ok g c).In_ok-make_room in
    let spare = spared here c.make_room-2.new.self c.index_mut.ensures.value c.in_ok-make_room-2.ensures.calls in
    issue_goes spare c.in_ok-copies.copies.event c.requires.event c.in_ok-copies.ensures.event c.index_mut-2.ensures.value c.in-Ok.ensures.taken
    c.record_submit.ensures.events

pub invariant_of-self-in-Err : goal.invariant_of-self-in-Err
invariant_of-self-in-Err g c =
    let here = place g (goal.at.invariant_of-self-in-Err g c).In_ok-make_room in
    let spare = spared here c.make_room-2.new.self c.index_mut.ensures.value c.in_ok-make_room-2.ensures.calls in
    let copies = c.in_ok-copies.ensures in
    refusal_world spare c.in_ok-copies.copies.event c.requires.event copies.event c.index_mut-2.ensures.value c.in-Err.ensures.refused
    copies.call c.record_refusal.ensures.left_out c.record_refusal.ensures.kept c.record_refusal.ensures.told c.in-Err.ensures.err (copies.keeps c.requires.fits)

pub returns-in-Err : goal.returns-in-Err
returns-in-Err g c =
    let here = place g (goal.at.returns-in-Err g c).In_ok-make_room in
    let spare = spared here c.make_room-2.new.self c.index_mut.ensures.value c.in_ok-make_room-2.ensures.calls in
    let copies = c.in_ok-copies.ensures in
    record {
      ok = refusal_goes spare c.in_ok-copies.copies.event c.requires.event copies.event c.index_mut-2.ensures.value c.in-Err.ensures.refused
          copies.call c.record_refusal.ensures.left_out c.record_refusal.ensures.kept c.record_refusal.ensures.told;
      err = tt;
      done = ap (λ (r : WorldView g.row.O-Alloc.Denot). r.done) c.self.view_is;
      refused = tt;
    }
