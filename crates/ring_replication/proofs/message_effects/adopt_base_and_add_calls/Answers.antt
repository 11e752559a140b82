-- Nothing more is specified after a base that isn't adopted; the calls are those after the committed places.
use Rattle.std.proofs.Common.{◌++◌, [], ap, sym, ◌∙◌}
use Rattle.std.proofs.lemmas.Bool.{cond-true}
use Rattle.ring_node_spec.specs.DueSends.{uncommitted_places}
use Rattle.ring_replication.specs.Replications.{HeldLog, held_log_adopted, calls_to_resend}
use Rattle.ring_replication.proofs.message_effects.adopt_base_and_add_calls.Goals as goal

pub returns-then-not-fits-clause-held : goal.returns-then-not-fits-clause-held
returns-then-not-fits-clause-held g c = λ may.
    absurd (let never = sym may ∙ sym c.in_ok-fits.ensures.fits ∙ c.if-not-fits.true in cc never)

pub returns-then-not-fits-clause-due : goal.returns-then-not-fits-clause-due
returns-then-not-fits-clause-due g c = λ may.
    absurd (let never = sym may ∙ sym c.in_ok-fits.ensures.fits ∙ c.if-not-fits.true in cc never)

pub returns-in_ok-add_pending_calls-clause-due : goal.returns-in_ok-add_pending_calls-clause-due
returns-in_ok-add_pending_calls-clause-due g c = λ may.
    let delivery_context = c.args.delivery_context.now in
    let log = (held_log_adopted c.args.held.now delivery_context.ring c.args.base).log in
    let past = c.uncommitted_places.ensures
    ∙ ap (uncommitted_places delivery_context.committed) (c.log.ensures ∙ ap (λ (h : HeldLog _). h.log) (c.in_ok-fits.ensures.held may)) in
    c.in_ok-add_pending_calls.ensures.ok
    ∙ ap (λ l. c.args.due.now.items ++ l)
    (ap (calls_to_resend c.args.pending.now) past
    ∙ sym (cond-true delivery_context.runs (calls_to_resend c.args.pending.now (uncommitted_places delivery_context.committed log)) [] c.if-delivery_context.true))
