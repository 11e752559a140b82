use Rattle.std.proofs.Common.{rules}
use Rattle.ring_base.proofs.Rows.{pushed}
use Rattle.ring_seat.specs.Seats.{IsAt}
use Rattle.ring_host_tests.proofs.NoneYet.{none_yet}
use Rattle.ring_host_tests.proofs.driven.alone_in.Goals as goal

pub returns : goal.returns
returns g c =
    let P = IsAt c.args.host.now.gauge in
    let none = none_yet P c.new-seats.result.items c.new-seats.ensures.items in
    pushed P c.new-seats.result.items c.push.new.self.items c.args.seat none c.requires (search rules)
