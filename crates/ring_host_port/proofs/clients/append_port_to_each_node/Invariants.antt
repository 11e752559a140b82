use Rattle.std.proofs.Common.{◌≡◌, ℕ, ◌+◌, All, length, slice_get, Some}
use Rattle.ring_client.specs.Asking.{new_asked}
use Rattle.ring_seat.specs.Seats.{IsAt}
use Rattle.ring_host_port.specs.Clients.{node_after}
use Rattle.ring_host_port.proofs.clients.append_port_to_each_node.Given as goal

abbrev pub invariant-loop-passed : goal.invariant-loop-passed
invariant-loop-passed g l = record {
  at : All (IsAt l.host.gauge) l.seats.items;
  left : length l.seats.items + l.passed ≡ l.host.gauge.words;
  long : length l.ports.items ≡ l.passed;
  order : (k : ℕ) (port : _) → slice_get l.ports.items k ≡ Some port → port.node ≡ node_after l.host.gauge.words l.first k;
  fresh : (k : ℕ) (port : _) → slice_get l.ports.items k ≡ Some port → port.asked ≡ new_asked;
}
