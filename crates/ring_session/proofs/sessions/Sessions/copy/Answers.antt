-- A copy of the clients is equal, client by client.
use Rattle.std.proofs.Common.{ℕ, List, ap, ◌∙◌}
use Rattle.ring_session.specs.Table.{LastCall, table_of}
use Rattle.ring_session.proofs.TableWrites.{IsTable-content, copied_same}
use Rattle.ring_session.proofs.sessions.Sessions.copy.Goals as goal

pub invariant_of-result : goal.invariant_of-result
invariant_of-result g c =
    IsTable-content c.self.inside.sessions.entries _ c.self.inside.object _ c.self.invariant
    (copied_same c.self.inside.sessions.entries c.in_ok-clone.field-0.entries c.in_ok-clone.ensures.cases)

pub returns-clause-ok : goal.returns-clause-ok
returns-clause-ok g c =
    let same = copied_same c.self.inside.sessions.entries c.in_ok-clone.field-0.entries c.in_ok-clone.ensures.cases in
    ap (λ (es : List (ℕ × LastCall)). table_of es c.in_ok-copy_by_snapshot.field-0) same
    ∙ ap (table_of c.self.inside.sessions.entries) c.in_ok-copy_by_snapshot.ensures.ok ∙ c.self.view_is
