-- Event by event.
use Rattle.std.proofs.Common.{◌+◌, List, take, length, refl, ap, ◌∙◌, sym, subst, arith}
use Rattle.std.proofs.lemmas.Option.{slice_get_read}
use Rattle.ring_node_spec.specs.declared.event.Event.{Event}
use Rattle.ring_world.specs.WorldView.{WorldView, IsRunOfEvents}
use Rattle.ring_base.proofs.Rows.{take-more}
use Rattle.ring_world.proofs.Playing.{plays_more}
use Rattle.ring_world.proofs.world.World.run_all.Goals as goal

pub count_done_event-requires : goal.count_done_event-requires
count_done_event-requires g c =
    let done = c.in_ok-run_event.ensures.done ∙ c.loop-event.invariant.1 in
    omega (arith, done, c.loop-event-test.true)

pub loop-event-preserved : goal.loop-event-preserved
loop-event-preserved g c =
    let object = g.O.Object.sequential in
    let es = c.args.events.now in
    let e = c.event-item.result in
    let i = c.loop-event.event-index in
    let at = slice_get_read es (length es) i e refl c.loop-event-test.true c.event-item.is in
    let q = c.run_event.new.self in
    let more = plays_more object (take i es) e (q.done + 1) c.args.self.now c.loop-event.self q c.loop-event.invariant.0 c.in_ok-run_event.ensures.ok in (
      subst (λ (r : WorldView g.row.O-Alloc.Denot). IsRunOfEvents object (take (i + 1) es) c.args.self.now r) (sym c.count_done_event.ensures)
          (subst (λ (xs : List (Event g.row.O-Alloc.Denot)). IsRunOfEvents object xs c.args.self.now
          (record q { done = q.done + 1 })) (sym (take-more es i e at)) more),
      ap (λ (r : WorldView g.row.O-Alloc.Denot). r.done) c.count_done_event.ensures ∙ ap (λ n. n + 1) (c.in_ok-run_event.ensures.done ∙ c.loop-event.invariant.1),
    )
