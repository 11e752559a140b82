-- A client with a port to each node of a host, and the seats of its ports.
-- Rules: Clients 1 and 4; The book and the threads 28
use Rattle.std.specs.Prelude.{◌≡◌, ℕ, ◌+◌, ◌-◌, ◌%◌, ◌<◌, ◌≤◌, ◌⊎◌, List, All, length, slice_get, Some, None}
use Rattle.ring_base.specs.declared.fault.Fault.{Fault}
use Rattle.ring_base.specs.declared.fault.Fault.TheVariants.{NotMember, Memory}
use Rattle.ring_client.specs.Asking.{new_asked}
use Rattle.ring_client.specs.Calling.{ClientOf}
use Rattle.ring_client.specs.declared.last_request.Asked.{Asked}
use Rattle.ring_host_port.specs.Gauges.{TableId}
use Rattle.ring_seat.specs.Seats.{SeatView, IsAt}

-- Seats of the host with this gauge, which has `nodes` nodes.
pub record AreSeats (gauge : TableId) (nodes : ℕ) (seats : List SeatView) : Type 0 where
  pub at : All (IsAt gauge) seats
  pub words : gauge.words ≡ nodes
  pub few : nodes ≤ 16

-- As many seats of the host as it has nodes.
abbrev pub AreForAll : TableId → List SeatView → Type 0
AreForAll gauge seats = AreSeats gauge (length seats) seats

-- The reason why no seats are taken: the list has fewer than the host has nodes, or an allocation fails.
abbrev pub AreNotTaken : ℕ → List SeatView → Fault → Type 0
AreNotTaken nodes seats fault = ((fault ≡ NotMember) × (length seats < nodes)) ⊎ ((fault ≡ Memory) × (nodes ≤ length seats))

-- The node that a client tries after `passed` others; node 1 follows the last. A `first` that is no node is treated as
-- one: 0 as 1, and above the last node the count goes on from node 1.
abbrev pub node_after : ℕ → ℕ → ℕ → ℕ
node_after nodes first passed = (first - 1 + passed) % nodes + 1

-- The client of this number before its first call. It polls a port at most 1,000,000 times a call. It has a port to each node,
-- `first` before the others in order, and nothing was submitted at any port.
pub record IsNew {P : Type 0} (node_of : P → ℕ) (asked_of : P → Asked) (number nodes first : ℕ) (client : ClientOf P) : Type 0 where
  pub its_number : client.client ≡ number
  pub next_call : client.next ≡ 1
  pub no_call : client.open_call ≡ None
  pub polls : client.turns ≡ 1000000
  pub count : length client.ports ≡ nodes
  pub order : (k : ℕ) (port : P) → slice_get client.ports k ≡ Some port → node_of port ≡ node_after nodes first k
  pub fresh : (k : ℕ) (port : P) → slice_get client.ports k ≡ Some port → asked_of port ≡ new_asked
