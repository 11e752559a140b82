-- Event by event.
use Rattle.std.proofs.Common.{◌+◌, ◌<◌, length, refl, ap, ◌∙◌, arith}
use Rattle.std.proofs.lemmas.Option.{slice_get_read}
use Rattle.ring_base.proofs.Each.{each-get}
use Rattle.ring_base.proofs.Results.{on-err}
use Rattle.ring_core_proof.specs.Limits.{EventFits}
use Rattle.ring_core_world.specs.Running.{WorldRun, world_of}
use Rattle.ring_core_world.proofs.Acting.{ran_none, acted_more, acted_whole}
use Rattle.ring_core_world.proofs.running.run_events.Goals as goal

pub loop-event-init : goal.loop-event-init
loop-event-init g c = (ran_none c.args.cores, refl)

pub apply_if_effective-requires : goal.apply_if_effective-requires
apply_if_effective-requires g c =
    let es = c.args.events.now in
    let e = c.event-item.result in
    each-get EventFits es c.loop-event.event-index e c.requires.fit
    (slice_get_read es (length es) c.loop-event.event-index e refl c.loop-event-test.true c.event-item.is)

pub loop-event-preserved : goal.loop-event-preserved
loop-event-preserved g c =
    let es = c.args.events.now in
    let e = c.event-item.result in
    let i = c.loop-event.event-index in
    let at = slice_get_read es (length es) i e refl c.loop-event-test.true c.event-item.is in (
      acted_more c.args.formed c.args.cores c.loop-event.world c.in_ok-world.world es i e c.loop-event.invariant.0 at c.in_ok-world.ensures.ok,
      ap (λ n. n + 1) c.loop-event.invariant.1,
    )

pub returns-clause-outs : goal.returns-clause-outs
returns-clause-outs g c =
    c.into_outs.ensures ∙ ap (λ (r : WorldRun g.row.A.Denot). (world_of r).outs)
    (acted_whole c.args.formed c.args.cores c.loop-event.world c.args.events.now c.loop-event.event-index c.loop-event.invariant.0 c.loop-event-test.false)

pub returns-in_err-world-clause-some : goal.returns-in_err-world-clause-some
returns-in_err-world-clause-some g c =
    on-err c.from_residual.result (c.loop-event.done < length c.args.events.now) (omega (arith, c.loop-event.invariant.1, c.loop-event-test.true))
