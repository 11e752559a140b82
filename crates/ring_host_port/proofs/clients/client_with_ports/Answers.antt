-- The client has the ports of the list.
use Rattle.std.proofs.Common.{refl}
use Rattle.ring_host_port.proofs.clients.client_with_ports.Goals as goal

pub returns-clause-client : goal.returns-clause-client
returns-clause-client g c =
    rw c.new.ensures
    (record {
      its_number = refl;
      next_call = refl;
      no_call = refl;
      polls = refl;
      count = c.in_ok-append_port_to_each_node.ensures.count;
      order = c.in_ok-append_port_to_each_node.ensures.order;
      fresh = c.in_ok-append_port_to_each_node.ensures.fresh;
    })
