-- A payload is queued or dropped.
use Rattle.std.proofs.Common.{◌≡◌, true, sym, ◌∙◌}
use Rattle.ring_base.specs.declared.state.State.TheVariants.{Operational}
use Rattle.ring_base.proofs.Results.{ok_to, ok_always}
use Rattle.ring_payload.specs.Packing.{is_queued}
use Rattle.ring_srp.proofs.PayloadSent.{queued, dropped}
use Rattle.ring_srp.proofs.stepping.enqueue_if_operational.Goals as goal

pub returns-then-is_queued-clause-ok : goal.returns-then-is_queued-clause-ok
returns-then-is_queued-clause-ok g c =
    let st : c.args.running_core.now.state ≡ Operational = sym c.state.ensures.value ∙ c.in-Operational.is in
    let q : is_queued c.args.payload ≡ true = sym c.is_queued.ensures ∙ c.if-is_queued.true in
    ok_to c.enqueue.result _ _ _ (sym (queued c.args.running_core.now c.args.payload st q).core) c.enqueue.ensures.ok

pub returns-then-is_queued-clause-silent : goal.returns-then-is_queued-clause-silent
returns-then-is_queued-clause-silent g c =
    let st : c.args.running_core.now.state ≡ Operational = sym c.state.ensures.value ∙ c.in-Operational.is in
    let q : is_queued c.args.payload ≡ true = sym c.is_queued.ensures ∙ c.if-is_queued.true in
    ok_always c.enqueue.result (queued c.args.running_core.now c.args.payload st q).outs

pub returns-else-is_queued-clause-ok : goal.returns-else-is_queued-clause-ok
returns-else-is_queued-clause-ok g c = sym (dropped c.args.running_core.now c.args.payload (λ s. sym c.is_queued.ensures ∙ c.if-is_queued.false) c.requires).core

pub returns-else-is_queued-clause-silent : goal.returns-else-is_queued-clause-silent
returns-else-is_queued-clause-silent g c = (dropped c.args.running_core.now c.args.payload (λ s. sym c.is_queued.ensures ∙ c.if-is_queued.false) c.requires).outs

pub returns-in_default-clause-ok : goal.returns-in_default-clause-ok
returns-in_default-clause-ok g c =
    sym (dropped c.args.running_core.now c.args.payload
    (λ s. absurd (c.in_default.not-Operational (c.state.ensures.value ∙ s))) c.requires).core

pub returns-in_default-clause-silent : goal.returns-in_default-clause-silent
returns-in_default-clause-silent g c =
    (dropped c.args.running_core.now c.args.payload
    (λ s. absurd (c.in_default.not-Operational (c.state.ensures.value ∙ s))) c.requires).outs
