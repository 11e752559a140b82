use Rattle.std.proofs.Common.{◌≡◌, ℕ, List, ◌+◌, refl, sym, rules, arith, ap, ◌∙◌}
use Rattle.std.specs.BTreeMap.{is_at}
use Rattle.std.specs.Map.{set_value}
use Rattle.std.specs.Ordering.{nat_cmp}
use Rattle.std.proofs.lemmas.Bool.{eqb-true}
use Rattle.std.proofs.lemmas.Result.{err_from_is_err_and, IfOk-weaker}
use Rattle.ring_session.specs.Table.{LastCall, table_of, table_answer}
use Rattle.ring_session.proofs.TableWrites.{written_same, IsTable-content, IsTable-known, next-known, next-other}
use Rattle.ring_session.proofs.TableLaws.{answer_told}
use Rattle.ring_session.proofs.sessions.Sessions.apply.Goals as goal

pub invariant_of-self : goal.invariant_of-self
invariant_of-self g c =
    IsTable-content c.self.inside.sessions.entries _ c.self.inside.object _ c.self.invariant
    (written_same c.self.inside.sessions.entries _ c.args.call.now.client c.in-Some.last.now c.apply.new.self
    (c.get_mut.follows.holds c.apply.new.self).0 (sym c.in-Some.ensures.value) c.in_err-apply-in-Some.ensures.err)

pub returns-in_err-apply-in-Some-clause-err : goal.returns-in_err-apply-in-Some-clause-err
returns-in_err-apply-in-Some-clause-err g c =
    let same = written_same c.self.inside.sessions.entries _ c.args.call.now.client c.in-Some.last.now
    c.apply.new.self (c.get_mut.follows.holds c.apply.new.self).0 (sym c.in-Some.ensures.value)
    c.in_err-apply-in-Some.ensures.err in
    let refused = err_from_is_err_and c.from_residual.result c.from_residual.ensures.1 in
    rw refused.1 (ap (λ (es : List (ℕ × LastCall)). table_of es c.apply.new.object) same
    ∙ ap (table_of c.self.inside.sessions.entries) c.in_err-apply-in-Some.ensures.content ∙ c.self.view_is)

pub invariant_of-self-then-is_next_number : goal.invariant_of-self-then-is_next_number
invariant_of-self-then-is_next_number g c =
    let number : c.args.call.now.number ≡ c.in-Some.last.now.number + 1 = eqb-true c.args.call.now.number
    (c.in-Some.last.now.number + 1) (sym c.if-is_next_number.ensures) in
    let kept = c.in_ok-apply-in-Some.ensures.kept in
    IsTable-known c.self.inside.sessions.entries _ c.args.call.now.client c.in-Some.last.now c.apply.new.self
    c.self.inside.object _ c.self.invariant c.get_mut.ensures.ordered (sym c.in-Some.ensures.value)
    (c.get_mut.follows.holds c.apply.new.self).0
    (omega (arith, number, ap (λ (last : LastCall). last.number) kept))

pub invariant_of-self-else-is_next_number : goal.invariant_of-self-else-is_next_number
invariant_of-self-else-is_next_number g c =
    IsTable-content c.self.inside.sessions.entries _ c.self.inside.object _ c.self.invariant
    (written_same c.self.inside.sessions.entries _ c.args.call.now.client c.in-Some.last.now c.in-Some.last.now
    (c.get_mut.follows.holds c.in-Some.last.now).0 (sym c.in-Some.ensures.value) refl)

pub returns-in_ok-apply-in-Some-clause-ok : goal.returns-in_ok-apply-in-Some-clause-ok
returns-in_ok-apply-in-Some-clause-ok g c =
    let number : c.args.call.now.number ≡ c.in-Some.last.now.number + 1 = eqb-true c.args.call.now.number
    (c.in-Some.last.now.number + 1) (sym c.if-is_next_number.ensures) in
    let kept = c.in_ok-apply-in-Some.ensures.kept in
    rw (← c.self.view_is) (next-known g.O.Object.sequential
    c.self.inside.sessions.entries _ c.self.inside.object _ c.args.call.now c.in-Some.last.now
    c.get_mut.ensures.ordered (sym c.in-Some.ensures.value) number
    ((c.get_mut.follows.holds c.apply.new.self).0
    ∙ ap (set_value (is_at (nat_cmp c.args.call.now.client)) c.self.inside.sessions.entries) kept)
    c.in_ok-apply-in-Some.ensures.applied)

pub returns-else-is_next_number-clause-ok : goal.returns-else-is_next_number-clause-ok
returns-else-is_next_number-clause-ok g c =
    rw (← c.self.view_is) (next-other g.O.Object.sequential c.self.inside.sessions.entries _ c.self.inside.object
    c.args.call.now c.in-Some.last.now (sym c.in-Some.ensures.value) c.if-is_next_number.ensures
    (written_same c.self.inside.sessions.entries _ c.args.call.now.client c.in-Some.last.now c.in-Some.last.now
    (c.get_mut.follows.holds c.in-Some.last.now).0 (sym c.in-Some.ensures.value) refl))

pub returns-in_ok-apply-in-Some-clause-told : goal.returns-in_ok-apply-in-Some-clause-told
returns-in_ok-apply-in-Some-clause-told g c = λ calls after. answer_told g.O.Object.sequential calls c.args.self.now c.args.call.now _ after (search rules)

pub returns-else-is_next_number-clause-told : goal.returns-else-is_next_number-clause-told
returns-else-is_next_number-clause-told g c = λ calls after. answer_told g.O.Object.sequential calls c.args.self.now c.args.call.now _ after (search rules)

pub returns-in-0-clause-told : goal.returns-in-0-clause-told
returns-in-0-clause-told g c = λ calls after. answer_told g.O.Object.sequential calls c.args.self.now c.args.call.now _ after (search rules)

pub returns-in-1-clause-told : goal.returns-in-1-clause-told
returns-in-1-clause-told g c = λ calls after.
    IfOk-weaker c.apply_first_call.result (λ answer. answer ≡ table_answer g.O.Object.sequential c.args.self.now c.args.call.now) _
    (λ answer is. answer_told g.O.Object.sequential calls c.args.self.now c.args.call.now answer after is) (search rules)

pub returns-in_default-clause-told : goal.returns-in_default-clause-told
returns-in_default-clause-told g c = λ calls after. answer_told g.O.Object.sequential calls c.args.self.now c.args.call.now _ after (search rules)
