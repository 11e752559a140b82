-- A gauge of words that are 0, and new seats at it.
use Rattle.std.proofs.Common.{◌≡◌, rules, replicate}
use Rattle.ring_seat.proofs.GaugeRule.{first_rises}
use Rattle.ring_seat.proofs.Seating.{all_at}
use Rattle.ring_seat.proofs.gauge.Gauge.new.Goals as goal

pub of_words-requires : goal.of_words-requires
of_words-requires g c =
    let zeros : c.in_ok-words.words.items ≡ replicate c.args.nodes 0 = search rules in
    rw (c.as_slice.ensures.value, zeros, c.from-count.ensures) (first_rises c.args.nodes)

pub returns-clause-at : goal.returns-clause-at
returns-clause-at g c = all_at c.in_ok-table.table.shared.table_id c.args.nodes c.add_foreign_seats.new.seats.items c.in_ok-add_foreign_seats.ensures.seats
