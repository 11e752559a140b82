-- All three parts, or none.
use Rattle.std.proofs.Common.{Some, None, sym, ◌∙◌}
use Rattle.std.proofs.lemmas.Bool.{cond-true, cond-false}
use Rattle.ring_recover.specs.Deliveries.{is_complete, delivery}
use Rattle.ring_recover.proofs.plan.Plan.finish.Goals as goal

pub returns-then-not-is_complete : goal.returns-then-not-is_complete
returns-then-not-is_complete g c =
    let p = c.args.self.now.plan in
    let held = c.args.window.now.held in
    sym (cond-false (is_complete p held) (Some (delivery p held)) None (sym c.is_complete.ensures ∙ c.if-not-is_complete.true))

pub returns : goal.returns
returns g c =
    let p = c.args.self.now.plan in
    let held = c.args.window.now.held in
    rw (c.regular_numbers.ensures, c.transitional_numbers.ensures, c.numbers_past_gap.ensures) (sym (cond-true (is_complete p held) (Some (delivery p held)) None
    (sym c.is_complete.ensures ∙ c.if-not-is_complete.false)))
