-- The owner's places come before the calls.
use Rattle.std.specs.Prelude.{OnOk}
use Rattle.std.proofs.Common.{◌≡◌, true, ap, ◌∙◌, subst}
use Rattle.ring_log.specs.Exchanges.{wanted}
use Rattle.ring_replication.specs.Replications.{fits_if, held_if}
use Rattle.ring_replication.proofs.LogChanges.{due-together}
use Rattle.ring_replication.proofs.message_effects.continue_exchange.Goals as goal

pub returns-clause-due : goal.returns-clause-due
returns-clause-due g c =
    due-together c.args.delivery_context.now c.args.pending.now c.args.held.now c.adopt_if_complete.result c.in_ok-base.base _ c.wanted-before.result _ c.wanted.result _
    c.args.due.now.items c.add_owner_sends.new.due.items c.adopt_if_complete.new.due.items c.in_ok-base.ensures.base c.wanted-before.ensures
    (c.wanted.ensures ∙ ap wanted c.in_ok-base.ensures.ok) c.in_ok-add_owner_sends.ensures.ok c.adopt_if_complete.ensures.due

pub returns-clause-held : goal.returns-clause-held
returns-clause-held g c =
    subst (λ b. OnOk c.adopt_if_complete.result (fits_if c.args.held.now.log b ≡ true → c.adopt_if_complete.new.held ≡ held_if c.args.delivery_context.now c.args.held.now b))
    c.in_ok-base.ensures.base c.adopt_if_complete.ensures.held
