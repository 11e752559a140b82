use Rattle.std.proofs.Common.{◌++◌, length, refl, ap, ◌∙◌, add-one}
use Rattle.std.proofs.lemmas.Option.{slice_get_read}
use Rattle.ring_book_lines.specs.Events.{items_in}
use Rattle.ring_book_lines.proofs.Shown.{history_of-take, history_of-all}
use Rattle.ring_book_lines.proofs.histories.history_of_lines.Goals as goal

pub loop-line-preserved : goal.loop-line-preserved
loop-line-preserved g c =
    let k = c.loop-line.line-index in
    let l = c.line-item.result in
    let at = slice_get_read c.args.lines.now (length c.args.lines.now) k l refl c.loop-line-test.true c.line-item.is in
    rw (add-one, history_of-take c.args.lines.now k l at)
    (c.in_ok-add_items.ensures.ok ∙ ap (λ xs. xs ++ items_in l.step.input l.step.answers) c.loop-line.invariant)

pub returns-clause-ok : goal.returns-clause-ok
returns-clause-ok g c = c.loop-line.invariant ∙ history_of-all c.args.lines.now c.loop-line.line-index c.loop-line-test.false
