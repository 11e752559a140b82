use Rattle.std.proofs.Common.{ℕ, List, rules, arith, ap, ◌∙◌}
use Rattle.ring_session.specs.Table.{LastCall, table_of}
use Rattle.ring_session.proofs.TableWrites.{taken_out, IsTable-content, IsTable-new}
use Rattle.ring_session.proofs.sessions.Sessions.apply_first_call.Goals as goal

pub invariant_of-self-in-Ok : goal.invariant_of-self-in-Ok
invariant_of-self-in-Ok g c =
    let none = rw (← c.self.view_is) at c.requires.unknown in
    let kept = ap (λ (last : LastCall). last.number) c.in-Ok.ensures.kept in
    IsTable-new c.self.inside.sessions.entries _ c.args.call.now.client c.apply.new.self
    c.self.inside.object _ c.self.invariant none (omega arith) (search rules) (omega (arith, c.requires.first, kept))

pub invariant_of-self-in-Err : goal.invariant_of-self-in-Err
invariant_of-self-in-Err g c =
    let none = rw (← c.self.view_is) at c.requires.unknown in
    IsTable-content c.self.inside.sessions.entries _ c.self.inside.object _ c.self.invariant
    (taken_out c.self.inside.sessions.entries _ c.remove.new.self.entries c.args.call.now.client c.apply.new.self c.remove.ensures.entries (search rules) none)

pub returns-in-Err-clause-err : goal.returns-in-Err-clause-err
returns-in-Err-clause-err g c =
    let none = rw (← c.self.view_is) at c.requires.unknown in
    let same = taken_out c.self.inside.sessions.entries _ c.remove.new.self.entries c.args.call.now.client
    c.apply.new.self c.remove.ensures.entries (search rules) none in
    ap (λ (es : List (ℕ × LastCall)). table_of es c.apply.new.object) same
    ∙ ap (table_of c.self.inside.sessions.entries) c.in-Err.ensures.content ∙ c.self.view_is
