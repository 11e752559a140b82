-- A number from the kept least one on is above that of each visited token.
use Rattle.ring_token.proofs.VisitNumbers.{accepted_by}
use Rattle.ring_token.proofs.visit.Visit.accepts.Goals as goal

pub returns : goal.returns
returns g c = rw (c.is_acceptable.ensures, c.self.invariant.1, ← c.self.view_is)
    (accepted_by c.self.inside.history.value c.self.inside.next_token_number c.self.inside.aru c.self.inside.safe c.args.high
    c.args.token.now c.self.invariant.2)
