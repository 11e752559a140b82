use Rattle.std.proofs.Common.{◌≡◌, ◌++◌, ◌∷◌, [], arith, length-append}
use Rattle.ring_book_lines.specs.Machines.{node_machine}
use Rattle.ring_book.proofs.Opened.{AllStart-snoc, AllStartEnds-snoc, pair_ring}
use Rattle.ring_book.proofs.opening.open_node.Goals as goal

pub returns : goal.returns
returns g c =
    let a : c.push_back.new.self.items ≡ c.args.nodes.now.items ++ c.in_ok-node.node ∷ [] = c.in_ok-push_back.ensures.items in
    let b : c.push_back-2.new.self.items ≡ c.args.writers.now.items ++ c.in_ok-writer.writer ∷ [] = c.in_ok-push_back-2.ensures.items in
    let d : c.push.new.self.items ≡ c.args.ends.now.items ++ c.in_ok-writer.end ∷ [] = c.in_ok-push.ensures.items in
    let e = c.in_ok-writer.ensures in
    rw (a, b, d) record {
      start = AllStart-snoc (node_machine g.O.Object.sequential c.args.group) 1 c.args.me
          c.args.nodes.now.items c.args.writers.now.items c.in_ok-node.node c.in_ok-writer.writer
          (omega (arith, c.requires.next)) c.requires.start
          record {
            node_is = c.in_ok-node.ensures.ok;
            sent_is = e.producer.0;
            free = omega (arith, e.producer.1);
            one = e.producer.2;
          };
      ends = AllStartEnds-snoc c.args.writers.now.items c.args.ends.now.items c.in_ok-writer.writer c.in_ok-writer.end c.requires.ends
          record { ring_is = pair_ring c.in_ok-writer.writer c.in_ok-writer.end e.pair; received_is = e.consumer.0; one = e.consumer.2 };
      count = simp length-append c.requires.next;
      refused = tt;
    }
