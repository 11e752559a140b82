-- At each return: there is such a place, and its reply is equal or not; or there is no such place.
use Rattle.std.proofs.Common.{◌≡◌, Some, None, slice_get, arith, sym, ◌∙◌}
use Rattle.std.proofs.lemmas.Grind.{common_steps}
use Rattle.std.proofs.lemmas.Option.{gets}
use Rattle.std.proofs.lemmas.Slice.Eq.{bytes_eq-Decides}
use Rattle.ring_checker.proofs.Checks.{right_at-found, right_at-none}
use Rattle.ring_checker.proofs.check.is_reply_at_place.Goals as goal

pub returns-in-Some : goal.returns-in-Some
returns-in-Some c =
    let is : slice_get c.args.issued.now c.args.at ≡ Some c.in-Some.place.now = grind (arith, common_steps, gets, c.in-Some.ensures.lookup) in
    let same = bytes_eq-Decides c.as_slice.result.now c.as_slice-in-Some.result.now in
    right_at-found c.args.issued.now c.args.at c.args.reply.now c.in-Some.place.now c.eq.result is
    (λ so. sym c.as_slice.ensures.value ∙ same.0 (sym c.eq.ensures ∙ so) ∙ c.as_slice-in-Some.ensures.value)
    (λ told. c.eq.ensures ∙ same.1 (c.as_slice.ensures.value ∙ told ∙ sym c.as_slice-in-Some.ensures.value))

pub returns-in-None : goal.returns-in-None
returns-in-None c =
    let is : slice_get c.args.issued.now c.args.at ≡ None = grind (arith, common_steps, gets, c.in-None.ensures.lookup) in
    right_at-none c.args.issued.now c.args.at c.args.reply.now is
