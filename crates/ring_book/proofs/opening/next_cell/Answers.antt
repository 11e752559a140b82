use Rattle.std.proofs.Common.{◌≡◌, ◌-◌, suc, refl, subst, length, arith, sym, ap, add-one, drop}
use Rattle.ring_book_lines.specs.Limits.{NodeFits}
use Rattle.ring_book_lines.specs.Machines.{node_machine}
use Rattle.ring_book.specs.JournalEnds.{ring_of_producer}
use Rattle.ring_book.specs.Openings.{rings_of}
use Rattle.ring_book.proofs.Opened.{start_cell, drop_next, starts_length, some_more}
use Rattle.ring_book.proofs.opening.next_cell.Goals as goal

pub unreachable-requires : goal.unreachable-requires
unreachable-requires g c =
    let some = c.in_default.ensures.variant.1 (omega (arith, c.requires.some, c.args.nodes.now.ok.0)) in
    absurd (cc some)

pub unreachable-requires-in_default-pop_front : goal.unreachable-requires-in_default-pop_front
unreachable-requires-in_default-pop_front g c =
    let m = node_machine g.O.Object.sequential g.K.BookName.name.group in
    let same = starts_length m c.args.me c.args.nodes.now.items c.args.writers.now.items c.requires.start in
    let more = ap length c.in-Some.ensures.items in
    let some = c.in_default-pop_front.ensures.variant.1 (some_more (length c.args.nodes.now.items)
    (length c.pop_front.new.self.items) (length c.args.writers.now.items) _ same more c.args.writers.now.ok.0) in
    absurd (cc some)

pub invariant_of-result : goal.invariant_of-result
invariant_of-result g c =
    let a = c.in-Some.ensures.items in
    let b = c.in-Some-pop_front.ensures.items in
    let s = rw (a, b) at c.requires.start in
    let d = rw b at c.requires.rings in
    let group = g.K.BookName.name.group in
    start_cell (node_machine g.O.Object.sequential group) NodeFits g.K.BookName.name _ c.args.me
    c.in-Some.node c.in-Some-pop_front.journal _ (rings_of c.pop_front-2.new.self.items) refl
    c.requires.member.0 c.requires.member.1 d s.0
    (subst NodeFits (sym s.0.node_is) (c.node_fits_law.ensures.opening group c.args.me c.requires.member.0 c.requires.member.1 c.requires.few))
    (omega (arith, c.in_ok-text.ensures.spare))

pub returns : goal.returns
returns g c =
    let a = c.in-Some.ensures.items in
    let b = c.in-Some-pop_front.ensures.items in
    let s = rw (a, b) at c.requires.start in
    let d = rw b at c.requires.rings in
    let all = g.K.BookName.name.rings in
    let left = rings_of c.pop_front-2.new.self.items in
    let more = ap length a in
    let next : suc (c.args.me - 1) ≡ c.args.me = omega (arith, c.requires.member.0) in
    record {
      cell = rw (s.0.node_is, s.0.sent_is) refl;
      start = rw add-one s.1;
      rings = subst (λ n. drop n all ≡ left) next (drop_next (c.args.me - 1) all (ring_of_producer c.in-Some-pop_front.journal) left d).1;
      count = omega (arith, more);
      refused = tt;
    }
