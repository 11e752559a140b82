use Rattle.std.proofs.Common.{◌≤◌, ℕ, subst, length, sym, ap, ◌∙◌}
use Rattle.ring_base.specs.Group.{Group}
use Rattle.ring_book_lines.specs.Machines.{node_machine}
use Rattle.ring_book.specs.Openings.{AllStart}
use Rattle.ring_book.proofs.Opened.{start_book, text_room}
use Rattle.ring_book.proofs.opening.Opening.parts.Goals as goal

pub cells_of-requires : goal.cells_of-requires
cells_of-requires g c =
    let e = c.self.view_is ∙ c.requires in
    let all = ap (λ n. n.group.count) e in
    record {
      few = subst (λ (n : ℕ). n ≤ 16) all c.self.invariant.3;
      start = subst (λ (gr : Group). AllStart (node_machine g.O.Object.sequential gr)
          1 c.self.inside.nodes.items c.self.inside.writers.items) (ap (λ n. n.group) e) c.self.invariant.0;
      count = c.self.invariant.2 ∙ all;
      rings = sym (ap (λ n. n.rings) e);
    }

pub new-requires : goal.new-requires
new-requires g c =
    let e = c.self.view_is ∙ c.requires in
    let all = ap (λ n. n.group.count) e in
    start_book (node_machine g.O.Object.sequential g.K.BookName.name.group)
    g.K.BookName.name c.self.inside.nodes.items c.self.inside.writers.items c.self.inside.ends.items
    c.in_ok-answer_indexes.answer_indexes.items _
    (subst (λ (gr : Group). AllStart (node_machine g.O.Object.sequential gr)
    1 c.self.inside.nodes.items c.self.inside.writers.items) (ap (λ n. n.group) e) c.self.invariant.0)
    c.self.invariant.1
    (subst (λ (n : ℕ). n ≤ 16) all c.self.invariant.3) (sym (c.self.invariant.2 ∙ all)) (sym (ap (λ n. n.rings) e))
    (c.in_ok-answer_indexes.ensures.count ∙ (c.len.ensures ∙ (c.self.inside.nodes.ok.0 ∙ (c.self.invariant.2 ∙ all)))) c.in_ok-answer_indexes.ensures.none
    (text_room (length c.in_ok-text.text.items) c.in_ok-text.text.spare c.in_ok-text.ensures.spare)

pub returns-clause-counted : goal.returns-clause-counted
returns-clause-counted g c =
    let all = ap (λ n. n.group.count) (c.self.view_is ∙ c.requires) in
    (subst (λ (n : ℕ). 1 ≤ n) all c.self.invariant.4, subst (λ (n : ℕ). n ≤ 16) all c.self.invariant.3)

pub returns-clause-ok : goal.returns-clause-ok
returns-clause-ok g c = (c.new.ensures, c.in_ok-cells.ensures.ok)
