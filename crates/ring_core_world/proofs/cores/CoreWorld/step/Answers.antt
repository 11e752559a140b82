-- The fields stay those of the world.
use Rattle.std.proofs.Common.{sym, subst, ◌<◌, ◌≡◌, ◌≤◌, ◌-◌, length, ap, ◌∙◌, arith}
use Rattle.ring_core_world.specs.Running.{WorldRun, world_of}
use Rattle.ring_core_proof.specs.Worlds.{world_after_event, stepped}
use Rattle.ring_core_world.proofs.WorldOfCores.{stepped_tells, stepped_by, input_fits, stepped_not}
use Rattle.ring_core_world.proofs.cores.CoreWorld.step.Goals as goal

pub record_idle_event-requires : goal.record_idle_event-requires
record_idle_event-requires g c =
    let t : length c.self.inside.cores.items ≡ (world_of c.args.self).total = c.self.invariant.many
    ∙ ap (λ (r : WorldRun g.row.A.Denot). (world_of r).total) c.self.view_is in
    let k = c.self.inside.cores.ok.0 in
    c.requires.same ∙ stepped_not (world_of c.args.self) c.args.node c.args.input
    (omega (arith, c.number.ensures.value, c.number.ensures.in_range.0))
    (omega (arith, t, k, c.len.ensures, c.from-place.ensures, c.number.ensures.value, c.if-place-len.true))

pub step-stepped-requires : goal.step-stepped-requires
step-stepped-requires g c = record { fits = input_fits c.args.input c.requires.fits }

pub invariant_of-self : goal.invariant_of-self
invariant_of-self g c =
    let k = c.self.inside in
    let i = c.args.node in
    let e = c.args.event.now in
    let m = c.from-place.result in
    let same : m ≡ i = c.from-place.ensures ∙ c.number.ensures.value in
    let low : 1 ≤ i = omega (arith, c.number.ensures.value, c.number.ensures.in_range.0) in
    let n = k.cores.ok.0 in
    let inside : i - 1 < length k.cores.items = omega (arith, n, same, c.len.ensures, c.if-place-len.false) in
    let w = subst (λ (r : WorldRun g.row.A.Denot). world_after_event (world_of r) e ≡ stepped (world_of r) i c.args.input) (sym c.self.view_is) c.requires.same in
    let by = stepped_by c.index_mut.result.now c.step-stepped.new.self c.args.input c.step-stepped.result c.step-stepped.ensures.outs c.step-stepped.ensures.ok
    c.step-stepped.ensures.err c.step-stepped.ensures.refused c.in-Ok.ensures.stopped in
    stepped_tells k.history.value c.history_with_event.result.value e k.cores.items k.opening_frame k.outs.items k.places.items c.self.invariant c.history_with_event.ensures i m same low inside
    c.index_mut.result.now c.index_mut.ensures.value c.args.input c.step-stepped.new.self _ c.record_step.new.outs.items c.record_step.new.places.items w
    c.requires.fits by.core by.given c.in-Ok.ensures.outs c.in-Ok.ensures.places
