-- Where nothing was sent, nothing is taken.
use Rattle.std.proofs.Common.{None, refl}
use Rattle.ring_driver.proofs.Firsts.{first_of}
use Rattle.ring_driver.proofs.driver.Driver.next_send.Goals as goal

pub returns-in_err-sent : goal.returns-in_err-sent
returns-in_err-sent g c =
    let s = c.self.inside in
    let none = first_of s.sends.items c.pop_front.new.self.items None s.sends.len s.sends.ok.0
    c.in_err-sent.ensures.items c.in_err-sent.ensures.variant.1 in
    rw (← c.self.view_is, c.from_residual.ensures) (none.0, rw (none.1, none.0) refl)
