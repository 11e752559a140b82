use Rattle.std.proofs.Common.{◌≡◌, ℕ, ◌-◌, ◌++◌, ◌∷◌, [], drop, length, arith, ap, ◌∙◌, add-one, suc, subst}
use Rattle.ring_book_lines.specs.Machines.{node_machine}
use Rattle.ring_book.specs.Openings.{new_cells, new_cell, rings_of}
use Rattle.ring_book.proofs.Opened.{below_16, all_counted}
use Rattle.ring_book.proofs.opening.add_cells.Goals as goal

pub overflow_cast-i : goal.overflow_cast-i
overflow_cast-i g c =
    let small = below_16 c.loop-i.i c.len-i-end.result g.K.BookName.name.group.count c.loop-i-test.true
    (c.len-i-end.ensures ∙ (c.args.nodes.now.ok.0 ∙ c.requires.count)) c.requires.few in
    omega (arith, small)

pub overflow_add-i : goal.overflow_add-i
overflow_add-i g c =
    let small = below_16 c.loop-i.i c.len-i-end.result g.K.BookName.name.group.count c.loop-i-test.true
    (c.len-i-end.ensures ∙ (c.args.nodes.now.ok.0 ∙ c.requires.count)) c.requires.few in
    omega (arith, small)

pub new-requires : goal.new-requires
new-requires g c =
    let small = below_16 c.loop-i.i c.len-i-end.result g.K.BookName.name.group.count c.loop-i-test.true
    (c.len-i-end.ensures ∙ (c.args.nodes.now.ok.0 ∙ c.requires.count)) c.requires.few in
    (omega arith, omega (arith, small))

pub next_cell-requires : goal.next_cell-requires
next_cell-requires g c =
    let i = c.loop-i.invariant in
    let all = c.len-i-end.ensures ∙ (c.args.nodes.now.ok.0 ∙ c.requires.count) in
    let here : c.loop-i.i ≡ suc c.loop-i.i - 1 = omega arith in
    rw (c.new.ensures, add-one) record {
      member = (omega arith, omega (arith, c.loop-i-test.true, all));
      few = c.requires.few;
      some = omega (arith, c.loop-i-test.true, all, i.count);
      start = i.start;
      rings = subst (λ (n : ℕ). drop n g.K.BookName.name.rings ≡ rings_of c.loop-i.writers.items) here i.rings;
    }

pub loop-i-preserved : goal.loop-i-preserved
loop-i-preserved g c =
    let i = c.loop-i.invariant in
    let m = node_machine g.O.Object.sequential g.K.BookName.name.group in
    let e = rw (c.new.ensures, add-one) at c.in_ok-next_cell.ensures in
    let pushed : c.push.new.self.items ≡ c.loop-i.cells.items ++ c.in_ok-next_cell.field-0 ∷ [] = c.in_ok-push.ensures.items in
    let start = rw add-one at e.start in
    rw add-one record {
      start = start;
      count = omega (arith, i.count, e.count);
      rings = e.rings;
      cells = pushed ∙ (ap (λ x. c.loop-i.cells.items ++ x ∷ []) e.cell ∙ ap (λ xs. xs ++ new_cell m (suc c.loop-i.i) ∷ []) i.cells);
    }

pub loop-i-init : goal.loop-i-init
loop-i-init g c = record {
  start = c.requires.start;
  count = omega (arith, c.requires.count);
  rings = c.requires.rings;
  cells = c.requires.empty;
}

pub returns-clause-ok : goal.returns-clause-ok
returns-clause-ok g c =
    let n = all_counted c.loop-i.i (length c.loop-i.nodes.items) g.K.BookName.name.group.count c.len-i-end.result
    c.loop-i.invariant.count (c.len-i-end.ensures ∙ (c.args.nodes.now.ok.0 ∙ c.requires.count)) c.loop-i-test.false in
    c.loop-i.invariant.cells ∙ ap (new_cells (node_machine g.O.Object.sequential g.K.BookName.name.group)) n
