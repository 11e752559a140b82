-- Nothing is left.
use Rattle.std.proofs.Common.{◌≡◌, ap, arith}
use Rattle.ring_session.specs.TicketEffects.{numbers_in}
use Rattle.ring_session.proofs.sessions.sum_of_numbers.Goals as goal

pub returns : goal.returns
returns g c =
    let i = c.loop-last.invariant in
    let none : numbers_in c.loop-last.last-iterator ≡ 0 = ap numbers_in c.in-None.ensures.steps.0 in
    omega (arith, i.whole, i.few, none)
