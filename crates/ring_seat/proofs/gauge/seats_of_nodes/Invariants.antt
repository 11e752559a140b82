use Rattle.std.proofs.Common.{◌≡◌, length}
use Rattle.ring_seat.specs.Gauges.{maker_view}
use Rattle.ring_seat.specs.Seats.{AreNew}
use Rattle.ring_seat.proofs.gauge.seats_of_nodes.Given as goal

abbrev pub invariant-loop-node : goal.invariant-loop-node
invariant-loop-node g l = record {
  maker : l.maker.me.0 ≡ maker_view l.nodes l.node;
  table_is : l.maker.table_id ≡ l.words.table_id;
  count : length l.seats.items ≡ l.node;
  each : AreNew l.words.table_id l.nodes l.seats.items;
}
