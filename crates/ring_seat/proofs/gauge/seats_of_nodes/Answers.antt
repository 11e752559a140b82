-- The maker makes the seat of the next node, which is appended to those made before.
use Rattle.std.proofs.Common.{◌≡◌, ◌<◌, ◌++◌, ◌∷◌, [], suc, ap, ◌∙◌, arith, length-append, rules}
use Rattle.ring_seat.specs.Gauges.{maker_after_seat}
use Rattle.ring_seat.specs.Seats.{new_seat, node_at}
use Rattle.ring_seat.proofs.GaugeRule.{owner_splits}
use Rattle.ring_seat.proofs.Seating.{seats_add, new_of_node}
use Rattle.ring_seat.proofs.gauge.seats_of_nodes.Goals as goal

pub split_seat-seat-requires : goal.split_seat-seat-requires
split_seat-seat-requires g c =
    let i = c.loop-node.invariant in
    let next = ap (λ v. v.seated_nodes) i.maker in
    let count = ap (λ v. v.count) i.maker in
    (i.table_is, omega (arith, c.requires.words), owner_splits c.loop-node.maker.id c.loop-node.maker.me.0 (ap (λ v. v.is_maker) i.maker) (omega arith))

pub loop-node-preserved : goal.loop-node-preserved
loop-node-preserved g c =
    let i = c.loop-node.invariant in
    let e = c.split_seat-seat.ensures in
    let gauge = c.args.words.now.table_id in
    let lt : c.loop-node.node < c.args.nodes = omega arith in
    let own = ap (λ m. m.0) e.4 in
    let maker = ap (λ m. m.0) e.2 in
    let seat = c.new-in-loop-node.result in
    let p : c.push.new.self.items ≡ c.loop-node.seats.items ++ seat ∷ [] = search rules in
    let table = e.3 ∙ i.table_is in
    let number : c.new.result ≡ suc c.loop-node.node = omega (arith, c.new.ensures) in
    let is : seat ≡ new_seat gauge (node_at c.args.nodes c.loop-node.node) = rw c.new-in-loop-node.ensures
    (new_of_node gauge c.split_seat-seat.result.table_id c.args.nodes c.loop-node.node c.new.result c.split_seat-seat.result.me.0.published
    c.split_seat-seat.result.me.0.loaded_words table number lt (ap (λ v. v.published) own) (ap (λ v. v.loaded_words) own)) in
    record {
      maker = maker ∙ ap maker_after_seat i.maker;
      table_is = e.0 ∙ i.table_is;
      count = rw p (omega (arith, length-append c.loop-node.seats.items, i.count));
      each = rw p (seats_add gauge c.args.nodes c.loop-node.node c.loop-node.seats.items seat i.count is i.each);
    }
