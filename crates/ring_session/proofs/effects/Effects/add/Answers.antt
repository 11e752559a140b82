use Rattle.std.proofs.Common.{◌≡◌, ◌++◌, ◌∷◌, [], ap, refl, subst, sym, rules, true, false}
use Rattle.ring_session.specs.SessionAnswer.{is_done}
use Rattle.ring_session.specs.Effects.{AreEffectsOf}
use Rattle.ring_session.proofs.Adding.{effects-push}
use Rattle.ring_session.proofs.effects.Effects.add.Goals as goal

pub returns-in_ok-push-in-Done-clause-ok : goal.returns-in_ok-push-in-Done-clause-ok
returns-in_ok-push-in-Done-clause-ok g c = λ before h.
    let e = c.in_ok-apply.ensures in
    let pushed : c.push.new.self.items ≡ c.self.inside.calls.items ++ c.args.call.now ∷ [] = search rules in
    effects-push before (record { table = c.self.inside.sessions; calls = c.self.inside.calls.items })
    (record { table = c.apply.new.self; calls = c.push.new.self.items }) c.args.call.now
    c.in_ok-apply.field-0 (c.table_law.ensures.effect before c.args.call.now) (subst (λ found. AreEffectsOf before found) (sym c.self.view_is) h) e.answer e.ok true
    (ap is_done c.in-Done.is) pushed

pub returns-in-Kept-clause-ok : goal.returns-in-Kept-clause-ok
returns-in-Kept-clause-ok g c = λ before h.
    let e = c.in_ok-apply.ensures in
    effects-push before (record { table = c.self.inside.sessions; calls = c.self.inside.calls.items })
    (record { table = c.apply.new.self; calls = c.self.inside.calls.items }) c.args.call.now
    c.in_ok-apply.field-0 (c.table_law.ensures.effect before c.args.call.now) (subst (λ found. AreEffectsOf before found) (sym c.self.view_is) h) e.answer e.ok false
    (ap is_done c.in-Kept.is) refl

pub returns-in-Refused-clause-ok : goal.returns-in-Refused-clause-ok
returns-in-Refused-clause-ok g c = λ before h.
    let e = c.in_ok-apply.ensures in
    effects-push before (record { table = c.self.inside.sessions; calls = c.self.inside.calls.items })
    (record { table = c.apply.new.self; calls = c.self.inside.calls.items }) c.args.call.now
    c.in_ok-apply.field-0 (c.table_law.ensures.effect before c.args.call.now) (subst (λ found. AreEffectsOf before found) (sym c.self.view_is) h) e.answer e.ok false
    (ap is_done c.in-Refused.is) refl
