-- The length of the order is the greatest number of calls that took effect at one node.
use Rattle.std.proofs.Common.{◌≡◌, ◌≤◌, length, ap, ◌∙◌, sym, subst, arith}
use Rattle.ring_base.specs.Group.{Group}
use Rattle.ring_base.specs.Numbers.{greatest}
use Rattle.ring_log.specs.EpochHistories.{committed_of}
use Rattle.ring_session.specs.Deduplicated.{deduplicated}
use Rattle.ring_node_spec.specs.Worlds.{whole_epochs_in, order}
use Rattle.ring_world.specs.Ordering.{effects_of, effects_of_nodes}
use Rattle.ring_world.specs.WorldView.{WorldView, world_of}
use Rattle.ring_world.proofs.OrderLengths.{order-length}
use Rattle.ring_world.proofs.world.World.order_len.Goals as goal

pub returns : goal.returns
returns g c =
    let k = c.self.inside in
    let object = g.O.Object.sequential in
    let p : WorldView g.row.O-Alloc.Denot = record { group = k.fixed; events = k.run_record.events.items; told = k.run_record.told.items; done = k.done } in
    let w = world_of object p in
    let is = c.self.invariant in
    let count = ap (λ (x : Group). x.count) is.same in
    subst (λ (q : WorldView g.row.O-Alloc.Denot). c.max_effects.result ≡ length (order (world_of object q))) c.self.view_is
    (c.max_effects.ensures ∙ ap (λ xs. greatest (effects_of_nodes object xs)) c.deref.ensures.value
    ∙ order-length object w k.nodes.items k.spares.items k.run_record.frames.frames k.run_record.history.items k.run_record.told.items k.run_record.longest.calls is.kept (λ i low high.
    let within : i ≤ k.fixed.count = omega (arith, high, count) in
    subst (λ (x : Group). effects_of object (w.nodes i) ≡ length (deduplicated (committed_of x (whole_epochs_in w i)))) (sym is.same)
    (c.committed_effects_law.ensures.effects k.fixed k.run_record.events.items i is.few is.fit low within)))
