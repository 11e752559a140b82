-- The seats split off are the last ones, as many as there are nodes.
use Rattle.std.proofs.Common.{rules, ◌≡◌, ◌+◌, ◌-◌, length, take, drop}
use Rattle.ring_host_port.proofs.Taken.{first_seats, last_seats}
use Rattle.ring_host_port.proofs.clients.take_seats.Goals as goal

pub returns-clause-seats : goal.returns-clause-seats
returns-clause-seats g c =
    let seats = c.args.seats.now.items in
    let left : c.split_off.new.self.items ≡ take (length seats - c.args.nodes) seats = search rules in
    first_seats c.args.host.now.gauge c.args.nodes (length seats - c.args.nodes) seats c.split_off.new.self.items c.requires left

pub returns-clause-own : goal.returns-clause-own
returns-clause-own g c =
    let seats = c.args.seats.now.items in
    let own : c.in_ok-split_off.field-0.items ≡ drop (length seats - c.args.nodes) seats = search rules in
    let many : length seats - c.args.nodes + c.args.nodes ≡ length seats = search rules in
    last_seats c.args.host.now.gauge c.args.nodes (length seats - c.args.nodes) seats c.in_ok-split_off.field-0.items c.requires many own
