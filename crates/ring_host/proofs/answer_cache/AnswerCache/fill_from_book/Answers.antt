use Rattle.std.proofs.Common.{◌≡◌, ◌+◌, ℕ, List, Option, Some, ap, sym, subst, ◌∙◌}
use Rattle.ring_session.specs.declared.answer.Answer.{Answer}
use Rattle.ring_book.specs.Lines.{answer_of_ticket, first_answer_in}
use Rattle.ring_host.proofs.Looks.{are_answered}
use Rattle.ring_host.proofs.answer_cache.AnswerCache.fill_from_book.Goals as goal

pub invariant_of-self : goal.invariant_of-self
invariant_of-self g c =
    are_answered g.O.Object.sequential g.K.BookName.name.group c.args.book.now.lines c.answers.result.now c.args.ticket.now.node
    c.args.ticket.now.ticket _ c.copy_answers.new.found.items (let e = c.number.ensures in cc) c.run_law.ensures.run
    (λ ticket. ap (λ (told : List (Option Answer)). answer_of_ticket told ticket) c.answers.ensures) c.copy_answers.ensures

pub returns-clause-found : goal.returns-clause-found
returns-clause-found g c = λ i answer there.
    let from = c.number.result in
    let same : from ≡ c.args.ticket.now.ticket = let e = c.number.ensures in cc in
    subst (λ (n : ℕ). first_answer_in c.args.book.now.lines c.args.ticket.now.node (n + i) ≡ Some answer) same
    (sym (ap (λ (told : List (Option Answer)). answer_of_ticket told (from + i)) c.answers.ensures) ∙ c.copy_answers.ensures i answer there)
