-- The maker makes a seat of no node, which is appended to those made before.
use Rattle.std.proofs.Common.{◌≡◌, ◌≤◌, ◌+◌, ◌++◌, ◌∷◌, [], ap, ◌∙◌, arith, length-append, rules}
use Rattle.ring_seat.specs.Seats.{new_seat, node_at}
use Rattle.ring_seat.proofs.GaugeRule.{guest_splits}
use Rattle.ring_seat.proofs.Seating.{seats_add, new_of_none}
use Rattle.ring_seat.proofs.gauge.add_foreign_seats.Goals as goal

pub split_seat-seat-requires : goal.split_seat-seat-requires
split_seat-seat-requires g c =
    (c.loop-foreign_seat.invariant.table_is, c.loop-foreign_seat.invariant.words, guest_splits c.loop-foreign_seat.maker.id c.loop-foreign_seat.maker.me.0)

pub loop-foreign_seat-preserved : goal.loop-foreign_seat-preserved
loop-foreign_seat-preserved g c =
    let i = c.loop-foreign_seat.invariant in
    let e = c.split_seat-seat.ensures in
    let gauge = c.args.words.now.table_id in
    let at = c.args.nodes + c.loop-foreign_seat.foreign_seat in
    let own = ap (λ m. m.0) e.4 in
    let seat = c.new.result in
    let p : c.push.new.self.items ≡ c.loop-foreign_seat.seats.items ++ seat ∷ [] = search rules in
    let table = e.3 ∙ i.table_is in
    let past : c.args.nodes ≤ at = omega arith in
    let is : seat ≡ new_seat gauge (node_at c.args.nodes at) = rw c.new.ensures
    (new_of_none gauge c.split_seat-seat.result.table_id c.args.nodes at c.split_seat-seat.result.me.0.published
    c.split_seat-seat.result.me.0.loaded_words table past (ap (λ v. v.published) own) (ap (λ v. v.loaded_words) own)) in
    record {
      table_is = e.0 ∙ i.table_is;
      words = i.words;
      count = rw p (omega (arith, length-append c.loop-foreign_seat.seats.items, i.count));
      each = rw p (seats_add gauge c.args.nodes at c.loop-foreign_seat.seats.items seat i.count is i.each);
    }
