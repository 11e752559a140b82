-- A step of a node is a step of the world, and its answers have their copies. A step that was refused memory is recorded
-- as a stop.
use Rattle.std.proofs.Common.{◌≡◌, ◌-◌, [], ◌∷◌, ◌++◌, length, Option, Some, Result, refl, ap, ◌∙◌, subst, arith}
use Rattle.std.specs.Prelude.{IfSome}
use Rattle.ring_base.specs.declared.fault.Fault.{Fault}
use Rattle.ring_node.specs.declared.outs.Outs.{Outs}
use Rattle.ring_object.specs.Operations.{Sequential}
use Rattle.ring_node_spec.specs.Nodes.{Node, node_known_log}
use Rattle.ring_node_spec.specs.Worlds.{calls_past}
use Rattle.ring_node_spec.specs.declared.input.Input.{Input}
use Rattle.ring_world.specs.WorldView.{WorldView}
use Rattle.ring_world.specs.Steps.{HasStepped}
use Rattle.ring_world.proofs.FrameHanded.{IsStepBy, read, not_read, unknown_step, step_fits}
use Rattle.ring_world.proofs.NodePlaces.{Stands, stands, unknown, roomy, spare_there, node_put, high}
use Rattle.ring_world.proofs.WorldOfNodes.{stepped_so, sends_fit, answers_few, answers_left, step_world, step_goes}
use Rattle.ring_world.proofs.WorldOfNodes.{standing_world, standing_goes}
use Rattle.ring_world.proofs.EventLimits.{all_fit}
use Rattle.ring_world.proofs.SubmitRefused.{room_less}
use Rattle.ring_world.proofs.world.World.step_and_record.Given.{Over}
use Rattle.ring_world.proofs.world.World.step_and_record.Goals.{In_ok-make_room}
use Rattle.ring_world.proofs.world.World.step_and_record.Goals as goal

-- the node's place in the list, once there is room
place : (g : Over) (c : In_ok-make_room g) → Stands g.O.Object.sequential
    (record { group = c.self.inside.fixed; events = c.make_room.new.self.events.items; told = c.make_room.new.self.told.items; done = c.self.inside.done })
    c.args.self.now c.self.inside.nodes.items c.self.inside.spares.items c.make_room.new.self.frames.frames c.make_room.new.self.history.items
    c.make_room.new.self.longest.calls c.args.node (c.from-place.result - 1)
place g c =
    let there = stands c.self.view_is c.self.invariant c.number.ensures.value c.number.ensures.in_range c.from-place.ensures
    c.self.inside.nodes.ok.0 c.len.ensures c.if-place-len.false in
    let room = c.in_ok-make_room.ensures in
    roomy there room.events room.told room.history room.frames room.longest

-- the input by which it steps
by : (g : Over) (c : In_ok-make_room g) → IsStepBy g.O.Object.sequential c.args.self.now c.args.event.now c.args.node c.decode_delivered_frame.new.place
by g c =
    let k = c.self.inside in
    let placed = c.in_ok-is_step.ensures in
    read g.O.Object.sequential c.args.event.now c.args.node c.self.view_is c.self.invariant.kept.frames_are c.requires
    placed.is placed.input c.if-not-is_step.false (c.sent_frames_fit_law.ensures.frames k.fixed k.run_record.events.items c.self.invariant.few (all_fit k.run_record.events.items c.self.invariant.fit))

-- the outcome of the node's step, by the input in `place`
given : {O A T : Type 0} {object : Sequential O} {o : Option (Input A)} {input : Input A} {n now : Node A} {answer : Result T Fault} {outs : Outs A}
    → o ≡ Some input → IfSome o (λ i. HasStepped object n i answer now outs) → HasStepped object n input answer now outs
given {object = object} {n = n} {now = now} {answer = answer} {outs = outs} e h =
    subst (λ o. IfSome o (λ i. HasStepped object n i answer now outs)) e h

pub record_event_only-requires : goal.record_event_only-requires
record_event_only-requires g c =
    let none = unknown c.self.view_is c.self.invariant c.number.ensures.value c.number.ensures.in_range c.from-place.ensures
    c.self.inside.nodes.ok.0 c.len.ensures c.if-place-len.true in
    record {
      fits = step_fits c.args.event.now c.args.node c.requires;
      same = unknown_step g.O.Object.sequential c.args.event.now c.args.node c.self.view_is c.self.invariant.kept.frames_are c.requires none;
    }

pub record_event_only-requires-then-not-is_step : goal.record_event_only-requires-then-not-is_step
record_event_only-requires-then-not-is_step g c = record {
  fits = step_fits c.args.event.now c.args.node c.requires;
  same = not_read g.O.Object.sequential {p = record {
    group = c.self.inside.fixed;
    events = c.self.inside.run_record.events.items;
    told = c.self.inside.run_record.told.items;
    done = c.self.inside.done;
  }} c.args.event.now c.args.node refl c.self.invariant.kept.frames_are c.requires c.in_ok-is_step.ensures.is c.if-not-is_step.true;
}

pub invariant_of-self-in_err-kept : goal.invariant_of-self-in_err-kept
invariant_of-self-in_err-kept g c = (place g (goal.at.invariant_of-self-in_err-kept g c).In_ok-make_room).world

pub step_node-requires : goal.step_node-requires
step_node-requires g c =
    let b = by g (goal.at.step_node-requires g c).In_ok-make_room in
    record {
      is = rw b.there refl;
      fits = rw b.there b.fits;
    }

pub index_mut-requires-in-Ok : goal.index_mut-requires-in-Ok
index_mut-requires-in-Ok g c =
    let there = spare_there (place g (goal.at.index_mut-requires-in-Ok g c).In_ok-make_room) in
    let many = c.self.inside.spares.ok.0 in
    omega (arith, there, many)

pub record_step_outputs-requires : goal.record_step_outputs-requires
record_step_outputs-requires g c =
    let at = goal.at.record_step_outputs-requires g c in
    let here = place g at.In_ok-make_room in
    let step = by g at.In_ok-make_room in
    let so = stepped_so (given step.there c.in-Ok.ensures) in
    let sends = c.step_counts_law.ensures.sends c.index_mut.result.now step.input step.fits in
    let same = ap length so.sends in
    let few = answers_few here c.index_mut.ensures.value so
    (c.pending_tickets_law.ensures.answers c.self.inside.fixed c.make_room.new.self.events.items c.args.node step.input) in
    record {
      fit = sends_fit here c.index_mut.ensures.value so
          (c.sent_frames_fit_law.ensures.steps c.self.inside.fixed c.make_room.new.self.events.items c.args.node step.input
          here.world.few (all_fit c.make_room.new.self.events.items here.world.fit) here.low (high here) step.fits);
      room = room_less 64 (length c.step_node.new.outs.sends.items) c.make_room.new.self.frames (omega (arith, sends, same)) c.in_ok-make_room.ensures.frames_room;
      left = answers_left here c.index_mut.ensures.value so c.args.event.now c.index_mut-in-Ok.ensures.value step.same;
      told_room = omega (arith, few, c.in_ok-make_room.ensures.told_room);
      history_room = omega (arith, few, c.in_ok-make_room.ensures.history_room);
      longest_room = c.in_ok-make_room.ensures.longest_room;
    }

pub invariant_of-self-in-Ok : goal.invariant_of-self-in-Ok
invariant_of-self-in-Ok g c =
    let at = goal.at.invariant_of-self-in-Ok g c in
    let step = by g at.In_ok-make_room in
    step_world (place g at.In_ok-make_room) c.index_mut.ensures.value (stepped_so (given step.there c.in-Ok.ensures)) c.args.event.now c.index_mut-in-Ok.ensures.value step.same
    c.in_ok-kept.kept c.record_step_outputs.new.spares c.in_ok-kept.ensures.ok step.steps
    (c.push_reserved.ensures.items ∙ ap (λ v. v.items ++ c.in_ok-kept.kept ∷ []) c.record_step_outputs.ensures.events) c.record_step_outputs.ensures.spares
    c.record_step_outputs.ensures.frames c.record_step_outputs.ensures.history c.record_step_outputs.ensures.told
    (c.record_step_outputs.ensures.longest ∙ ap (λ n. c.make_room.new.self.longest.calls ++ calls_past (length c.make_room.new.self.longest.calls) n c.step_node.new.outs.committed.items)
    (c.committed_len-many.ensures ∙ ap (λ (n : Node g.row.O-Alloc.Denot). (node_known_log n).committed)
    (node_put (place g at.In_ok-make_room) c.step_node.new.node c.index.ensures)))

pub returns-in-Ok : goal.returns-in-Ok
returns-in-Ok g c =
    let at = goal.at.returns-in-Ok g c in
    let step = by g at.In_ok-make_room in
    record {
      ok = step_goes (place g at.In_ok-make_room) c.index_mut.ensures.value (stepped_so (given step.there c.in-Ok.ensures)) c.args.event.now c.index_mut-in-Ok.ensures.value
          step.same c.in_ok-kept.kept c.in_ok-kept.ensures.ok
          (c.push_reserved.ensures.items ∙ ap (λ v. v.items ++ c.in_ok-kept.kept ∷ []) c.record_step_outputs.ensures.events) c.record_step_outputs.ensures.told;
      err = tt;
      done = ap (λ (r : WorldView g.row.O-Alloc.Denot). r.done) c.self.view_is;
      refused = tt;
    }

pub invariant_of-self-in-Err : goal.invariant_of-self-in-Err
invariant_of-self-in-Err g c =
    let at = goal.at.invariant_of-self-in-Err g c in
    let step = by g at.In_ok-make_room in
    let none = given step.there c.in-Err.ensures in
    standing_world (place g at.In_ok-make_room) c.args.event.now c.index_mut.ensures.value none.refused c.in_ok-kept.kept c.event_or_stop-stop.result step.input
    c.in_ok-kept.ensures.ok c.event_or_stop-stop.ensures.stopped c.event_or_stop-stop.ensures.memory step.same step.steps none.err c.push_reserved-in-Err.ensures.items

pub returns-in-Err : goal.returns-in-Err
returns-in-Err g c =
    let at = goal.at.returns-in-Err g c in
    let step = by g at.In_ok-make_room in
    record {
      ok = standing_goes (place g at.In_ok-make_room) c.args.event.now c.index_mut.ensures.value (given step.there c.in-Err.ensures).refused
          c.in_ok-kept.kept c.event_or_stop-stop.result step.input c.in_ok-kept.ensures.ok c.event_or_stop-stop.ensures.stopped c.event_or_stop-stop.ensures.memory step.same
          step.steps c.push_reserved-in-Err.ensures.items;
      err = tt;
      done = ap (λ (r : WorldView g.row.O-Alloc.Denot). r.done) c.self.view_is;
      refused = tt;
    }
