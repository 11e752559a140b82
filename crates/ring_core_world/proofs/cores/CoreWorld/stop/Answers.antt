-- The fields stay those of the world.
use Rattle.std.proofs.Common.{◌≡◌, ◌≤◌, ◌<◌, ◌-◌, length, ap, ◌∙◌, arith}
use Rattle.ring_core_proof.specs.Worlds.{world_after_event}
use Rattle.ring_core_world.specs.Running.{WorldRun, world_of}
use Rattle.ring_core_world.proofs.WorldOfCores.{halted_tells, stopped_not}
use Rattle.ring_core_world.proofs.cores.CoreWorld.stop.Goals as goal

pub record_idle_event-requires : goal.record_idle_event-requires
record_idle_event-requires g c =
    let w = world_of c.args.self in
    let t : length c.self.inside.cores.items ≡ w.total = c.self.invariant.many ∙ ap (λ (r : WorldRun g.row.A.Denot). (world_of r).total) c.self.view_is in
    let k = c.self.inside.cores.ok.0 in
    ap (world_after_event w) c.requires ∙ stopped_not w c.args.node
    (omega (arith, c.number.ensures.value, c.number.ensures.in_range.0))
    (omega (arith, t, k, c.len.ensures, c.from-place.ensures, c.number.ensures.value, c.if-place-len.true))

pub invariant_of-self : goal.invariant_of-self
invariant_of-self g c =
    let k = c.self.inside in
    let i = c.args.node in
    let m = c.from-place.result in
    let same : m ≡ i = c.from-place.ensures ∙ c.number.ensures.value in
    let low : 1 ≤ i = omega (arith, c.number.ensures.value, c.number.ensures.in_range.0) in
    let n = k.cores.ok.0 in
    let inside : i - 1 < length k.cores.items = omega (arith, n, same, c.len.ensures, c.if-place-len.false) in
    halted_tells k.history.value c.history_with_event.result.value c.args.event.now k.cores.items k.opening_frame k.outs.items k.places.items c.self.invariant c.history_with_event.ensures i m same
    low inside
    c.index_mut.result.now c.index_mut.ensures.value c.stop.new.self (ap (world_after_event (world_of k.history.value)) c.requires) c.stop.ensures
