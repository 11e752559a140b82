use Rattle.std.proofs.Common.{◌≡◌, ◌+◌, ◌<◌, length}
use Rattle.ring_seat.specs.Seats.{AreNew}
use Rattle.ring_seat.proofs.gauge.add_foreign_seats.Given as goal

abbrev pub invariant-loop-foreign_seat : goal.invariant-loop-foreign_seat
invariant-loop-foreign_seat g l = record {
  table_is : l.maker.table_id ≡ l.words.table_id;
  words : 0 < l.words.table_id.words;
  count : length l.seats.items ≡ l.nodes + l.foreign_seat;
  each : AreNew l.words.table_id l.nodes l.seats.items;
}
