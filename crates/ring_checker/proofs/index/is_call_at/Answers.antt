use Rattle.std.proofs.Common.{◌≡◌, ◌∙◌, Some, slice_get, ap, sym, arith}
use Rattle.std.proofs.lemmas.Grind.{common_steps}
use Rattle.std.proofs.lemmas.Option.{gets}
use Rattle.ring_session.specs.SessionAnswerLaws.{is_same-true}
use Rattle.ring_checker.proofs.index.is_call_at.Goals as goal

pub returns-in-Some : goal.returns-in-Some
returns-in-Some g c = λ so.
    let at : slice_get c.args.order.now c.args.place ≡ Some c.in-Some.other.now = grind (arith, common_steps, gets, c.in-Some.ensures.lookup) in
    at ∙ ap Some (is_same-true c.args.call.now c.in-Some.other.now (sym c.equals_call.ensures.value ∙ so))
