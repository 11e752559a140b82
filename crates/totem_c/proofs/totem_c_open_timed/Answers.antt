use Rattle.std.proofs.Common.{inl}
use Rattle.totem_c.proofs.totem_c_open_timed.Goals as goal

pub returns-in-Some : goal.returns-in-Some
returns-in-Some c =
    let new = c.in-Some.ensures in
    (c.open.result, c.number.ensures, inl (c.in-Some.periods, new.join, new.retransmit, new.consensus, new.loss, c.open.ensures))
