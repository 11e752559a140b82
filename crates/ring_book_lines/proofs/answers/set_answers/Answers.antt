use Rattle.std.proofs.Common.{length, refl, ap, sym, ◌∙◌, add-one, Some}
use Rattle.std.specs.Prelude.{slice_set}
use Rattle.std.proofs.lemmas.Option.{slice_get_read}
use Rattle.ring_book_lines.proofs.AnswersByTicket.{with_answers-take, with_answers-all}
use Rattle.ring_book_lines.proofs.answers.set_answers.Goals as goal

pub loop-answered-preserved : goal.loop-answered-preserved
loop-answered-preserved g c =
    let k = c.loop-answered.answered-index in
    let a = c.answered-item.result in
    let at = slice_get_read c.args.answers.now (length c.args.answers.now) k a refl c.loop-answered-test.true c.answered-item.is in
    rw add-one record {
      items = c.set_answer.ensures.items ∙ (ap (λ xs. slice_set xs a.ticket (Some a.answer))
          c.loop-answered.invariant.items ∙ sym (with_answers-take c.args.told.now.items c.args.answers.now k a at));
      capacity = c.set_answer.ensures.capacity ∙ c.loop-answered.invariant.capacity;
    }

pub returns-clause-items : goal.returns-clause-items
returns-clause-items g c = c.loop-answered.invariant.items
    ∙ with_answers-all c.args.told.now.items c.args.answers.now c.loop-answered.answered-index c.loop-answered-test.false
