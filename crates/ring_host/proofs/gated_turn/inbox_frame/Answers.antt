use Rattle.std.proofs.Common.{◌∙◌, refl, sym}
use Rattle.ring_host.proofs.ItemsMade.{is_copy}
use Rattle.ring_host.proofs.gated_turn.inbox_frame.Goals as goal

pub returns : goal.returns
returns g c =
    is_copy c.args.outbox.now c.args.index c.in_ok-outbox_frame.outbox_frame c.in_ok-text.text.now _
    (sym c.get.ensures ∙ c.in_ok-outbox_frame.was) refl (c.in-Ok.ensures.items_if_clones_equal (λ x y same. same)) c.in_ok-text.ensures.some
