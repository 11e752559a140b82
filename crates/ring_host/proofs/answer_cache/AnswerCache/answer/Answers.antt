use Rattle.ring_host.proofs.Looks.{kept_answered}
use Rattle.ring_host.proofs.answer_cache.AnswerCache.answer.Goals as goal

pub returns-clause-answered : goal.returns-clause-answered
returns-clause-answered g c =
    rw (c.cached_answer_to.ensures, ← c.self.view_is) (kept_answered g.O.Object.sequential g.K.BookName.name.group
    (record { node = c.self.inside.node; first = c.self.inside.first; found = c.self.inside.found.items })
    c.args.ticket.now.node c.args.ticket.now.ticket c.self.invariant)
