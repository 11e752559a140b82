use Rattle.std.proofs.Common.{◌++◌, length, refl, ap, ◌∙◌, add-one, append_assoc, take}
use Rattle.std.proofs.lemmas.Option.{slice_get_read}
use Rattle.ring_node_spec.specs.Worlds.{reply_items_of as replies, reply_items}
use Rattle.ring_session.specs.SessionAnswer.{reply_of_answer}
use Rattle.ring_book_lines.proofs.Shown.{replies-take}
use Rattle.ring_book_lines.proofs.histories.add_replies.Goals as goal

pub loop-answered-preserved : goal.loop-answered-preserved
loop-answered-preserved g c =
    let k = c.loop-answered.answered-index in
    let a = c.answered-item.result in
    let at = slice_get_read c.args.answers.now (length c.args.answers.now) k a refl c.loop-answered-test.true c.answered-item.is in
    let more = reply_items a.call (reply_of_answer a.answer) in
    rw (add-one, replies-take c.args.answers.now k a at)
    (c.in_ok-add_reply.ensures.ok ∙ (ap (λ xs. xs ++ more) c.loop-answered.invariant
    ∙ append_assoc c.args.items.now.items (replies (take k c.args.answers.now)) more))
