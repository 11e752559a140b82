-- One more payload, which a running core takes.
use Rattle.std.proofs.Common.{rules, ◌≡◌, refl, false, ap, sym, ◌∙◌, subst, if◌then◌else◌}
use Rattle.std.proofs.lemmas.List.{map-id}
use Rattle.std.proofs.lemmas.Iterator.Adapters.{YieldsList-from_vec}
use Rattle.std.proofs.lemmas.Iterator.Consumers.{YieldsList-end}
use Rattle.ring_base.specs.declared.fault.Fault.TheVariants.{Memory, Stopped as StoppedFault}
use Rattle.ring_core_spec.specs.State.{Core}
use Rattle.ring_core_spec.specs.Stepping.{ring_step}
use Rattle.ring_core_spec.specs.declared.input.Input.TheVariants.{Send as SendInput}
use Rattle.ring_replica.specs.NodeSpec.{is_stopped, handed_over}
use Rattle.ring_replica.proofs.EpochMarks.{going_step}
use Rattle.ring_node.proofs.NodeSteps.{handed-next}
use Rattle.ring_node.proofs.core_with_replica.hand_payloads_to_core.Goals as goal

pub loop-payload-init : goal.loop-payload-init
loop-payload-init g c = record { core = refl; going = c.requires }

pub loop-payload-preserved : goal.loop-payload-preserved
loop-payload-preserved g c =
    let i = c.loop-payload.invariant in
    record {
      core = c.in_ok-send.ensures.ok
          ∙ ap (λ (x : Core _). (ring_step x (SendInput c.in-Some.payload)).core) i.core
          ∙ sym (handed-next c.args.core.now c.loop-payload.yielded c.in-Some.payload);
      going = subst (λ (x : Core _). is_stopped x.state ≡ false) (sym c.in_ok-send.ensures.ok)
          (going_step c.loop-payload.core (SendInput c.in-Some.payload) i.going);
    }

pub returns-in_err-send-clause-refused : goal.returns-in_err-send-clause-refused
returns-in_err-send-clause-refused g c =
    let plain : c.in_err-send.field-0.0 ≡ Memory = c.in_err-send.ensures.refused
    ∙ ap (λ b. if b then StoppedFault else Memory) c.loop-payload.invariant.going in
    search (rules, plain)

pub returns-clause-ok : goal.returns-clause-ok
returns-clause-ok g c =
    let items = c.args.due.items in
    let begun = c.into_iter-payload-iterator.ensures.into_iter_gives in
    let ended = YieldsList-end (YieldsList-from_vec items begun.0 (begun.1 ∙ c.args.due.ok.0))
    c.loop-payload.yielded c.loop-payload.payload-iterator c.loop-payload.yielded_by
    c.next.result c.next.new.self c.in-None.is c.next.ensures.steps in
    c.loop-payload.invariant.core ∙ ap (handed_over c.args.core.now) (sym (map-id c.loop-payload.yielded) ∙ ended.0)
