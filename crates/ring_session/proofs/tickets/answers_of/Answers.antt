-- Without pending tickets there are no answers.
use Rattle.std.proofs.Common.{◌≡◌, ◌∙◌, [], length, sym}
use Rattle.std.proofs.lemmas.Bool.{eqb-true}
use Rattle.ring_session.proofs.BucketPlaces.{answers_after_committed-empty}
use Rattle.ring_session.proofs.tickets.answers_of.Goals as goal

pub returns-then-is_empty-2-clause-answers : goal.returns-then-is_empty-2-clause-answers
returns-then-is_empty-2-clause-answers g c =
    let none : length c.args.pending.now ≡ 0 = eqb-true (length c.args.pending.now) 0 (sym c.is_empty-2.ensures ∙ c.if-is_empty-2.true) in
    c.new-then-is_empty-2.ensures.items
    ∙ sym (answers_after_committed-empty g.O.Object.sequential c.args.sessions.now c.args.pending.now [] c.args.committed.now none)
