use Rattle.std.proofs.Common.{◌≡◌, ℕ, ◌<◌, ◌-◌, ◌++◌, arith, refl, inl, inr, sym, ap, ◌∙◌, length, List, subst, [], ◌∷◌}
use Rattle.rtrb.specs.Ring.{known_items, known_free, sent}
use mathlib.Core.List.{IsPrefix}
use Rattle.ring_book.specs.Cells.{AllOf}
use Rattle.ring_book_lines.specs.Lines.{steps_of, IsDeliverable}
use Rattle.ring_book_lines.specs.Machines.{node_machine}
use Rattle.ring_book_lines.specs.Steps.{StepView, LineView}
use Rattle.ring_book.proofs.Entering.{book_looks, all_entered, Popped, book_enters, book_same}
use Rattle.ring_book.proofs.Entering.{cell_enters, cell_looks, pair_at, pair_stays, popped, free_again}
use Rattle.ring_book.proofs.Entering.{writers, ring_at}
use Rattle.ring_book.proofs.Looking.{own_end, own_told, looked, comes, found_first}
use Rattle.ring_book_lines.proofs.Leading.{steps_of-own}
use Rattle.ring_book.proofs.Journaling.{AllOf-last}
use Rattle.ring_book.proofs.book.Book.append_step_of_cell.Goals as goal

pub returns-then-self-eq0 : goal.returns-then-self-eq0
returns-then-self-eq0 g c = rw (← c.self.view_is) (refl, refl, refl, inl c.if-self-eq0.true)

pub slots_beside-requires : goal.slots_beside-requires
slots_beside-requires g c =
    let i = c.number.result - 1 in
    let own = own_end c.self.invariant c.cell.invariant c.number.ensures.value c.index_mut-end.ensures.value in
    pair_at g.K.BookName.name i c.cell.inside.writer.journal c.index_mut-end.result.now
    (ring_at g.K.BookName.name.rings c.cell.inside.writer.me i _ own.0 c.cell.invariant.ring)
    (c.self.invariant.each i c.index_mut-end.result.now own.1).ring

pub invariant_of-self : goal.invariant_of-self
invariant_of-self g c =
    let i = c.number.result - 1 in
    let own = own_end c.self.invariant c.cell.invariant c.number.ensures.value c.index_mut-end.ensures.value in
    book_looks (node_machine g.O.Object.sequential g.K.BookName.name.group)
    g.K.BookName.name c.self.inside.lines.items c.self.inside.reserved c.self.inside.journal_ends.items _ _ _ _ _ _ i
    c.index_mut-end.result.now c.slots_beside.new.self c.self.invariant own.1 c.slots_beside.ensures.looked.0
    c.slots_beside.ensures.looked.1 c.self.invariant.text

pub invariant_of-cell : goal.invariant_of-cell
invariant_of-cell g c =
    let l = c.slots_beside.ensures.producer in
    cell_looks (node_machine g.O.Object.sequential g.K.BookName.name.group) g.K.BookName.name c.cell.inside.writer.me
    c.cell.inside.writer.is_step_unentered c.cell.inside.node c.cell.inside.writer.journal c.slots_beside.new.producer _ c.cell.invariant l.0
    l.1 l.2

pub returns-then-slots_beside-eq0 : goal.returns-then-slots_beside-eq0
returns-then-slots_beside-eq0 g c =
    let i = c.number.result - 1 in
    let own = own_end c.self.invariant c.cell.invariant c.number.ensures.value c.index_mut-end.ensures.value in
    let l = c.slots_beside.ensures in
    let look = looked c.cell.inside.writer.journal c.slots_beside.new.producer c.index_mut-end.result.now c.slots_beside.new.self
    c.slots_beside.ensures.looked c.slots_beside.ensures.producer c.slots_beside.ensures.fifo in
    let none : length (known_items c.slots_beside.new.self) ≡ 0 = omega arith in
    let all = all_entered g.K.BookName.name c.self.inside.lines.items i c.cell.inside.writer.journal
    c.slots_beside.new.producer c.index_mut-end.result.now c.slots_beside.new.self
    (c.self.invariant.each i c.index_mut-end.result.now own.1) look none in
    let entered = subst (λ (k : ℕ). sent c.cell.inside.writer.journal ≡ steps_of k c.self.inside.lines.items) own.0 all in
    rw (← c.self.view_is, ← c.cell.view_is) (refl, refl, rw l.producer.1 refl, inr (inl entered))

pub is_deliverable-requires : goal.is_deliverable-requires
is_deliverable-requires g c = c.self.invariant.text

pub invariant_of-self-then-not-is_deliverable : goal.invariant_of-self-then-not-is_deliverable
invariant_of-self-then-not-is_deliverable g c =
    let i = c.number.result - 1 in
    let own = own_end c.self.invariant c.cell.invariant c.number.ensures.value c.index_mut-end.ensures.value in
    book_looks (node_machine g.O.Object.sequential g.K.BookName.name.group)
    g.K.BookName.name c.self.inside.lines.items c.self.inside.reserved c.self.inside.journal_ends.items _ _ _ _ _ _ i
    c.index_mut-end.result.now c.slots_beside.new.self c.self.invariant own.1 c.slots_beside.ensures.looked.0
    c.slots_beside.ensures.looked.1 c.is_deliverable.ensures.room

pub invariant_of-cell-then-not-is_deliverable : goal.invariant_of-cell-then-not-is_deliverable
invariant_of-cell-then-not-is_deliverable g c =
    let l = c.slots_beside.ensures.producer in
    cell_looks (node_machine g.O.Object.sequential g.K.BookName.name.group) g.K.BookName.name c.cell.inside.writer.me
    c.cell.inside.writer.is_step_unentered c.cell.inside.node c.cell.inside.writer.journal c.slots_beside.new.producer _ c.cell.invariant l.0
    l.1 l.2

pub returns-then-not-is_deliverable : goal.returns-then-not-is_deliverable
returns-then-not-is_deliverable g c =
    let i = c.number.result - 1 in
    let own = own_end c.self.invariant c.cell.invariant c.number.ensures.value c.index_mut-end.ensures.value in
    let l = c.slots_beside.ensures in
    let look = looked c.cell.inside.writer.journal c.slots_beside.new.producer c.index_mut-end.result.now c.slots_beside.new.self
    c.slots_beside.ensures.looked c.slots_beside.ensures.producer c.slots_beside.ensures.fifo in
    let x : StepView g.row.O-Alloc.Denot = c.peek_known.result.now in
    let next = comes g.K.BookName.name c.self.inside.lines.items i c.cell.inside.writer.me c.cell.inside.writer.journal c.slots_beside.new.producer
    c.index_mut-end.result.now c.slots_beside.new.self x own.0 (c.self.invariant.each i c.index_mut-end.result.now own.1) look c.peek_known.ensures in
    let lost : IsDeliverable c.self.inside.lines.items x.node x.input
    → ⊥ = (λ h. let no_way = c.if-not-is_deliverable.ensures.found.1 (rw c.as_slice.ensures.value h) in cc) in
    rw (← c.self.view_is, ← c.cell.view_is) (refl, refl, rw l.producer.1 refl, inr (inr (x, next.last, lost)))

pub slots_beside-number-requires : goal.slots_beside-number-requires
slots_beside-number-requires g c =
    let i = c.number.result - 1 in
    let own = own_end c.self.invariant c.cell.invariant c.number.ensures.value c.index_mut-end.ensures.value in
    pair_stays g.K.BookName.name i c.cell.inside.writer.journal c.slots_beside.new.producer c.index_mut-end.result.now
    c.slots_beside.new.self c.pop_known-step.new.self
    (ring_at g.K.BookName.name.rings c.cell.inside.writer.me i _ own.0 c.cell.invariant.ring)
    (c.self.invariant.each i c.index_mut-end.result.now own.1).ring c.slots_beside.ensures.producer.0
    c.slots_beside.ensures.looked.0 c.pop_known-step.ensures.ring

pub overflow_cast-number : goal.overflow_cast-number
overflow_cast-number g c = omega (arith, c.self.invariant.limit, c.len-number.ensures, c.self.inside.lines.ok.0)

pub push_reserved-requires : goal.push_reserved-requires
push_reserved-requires g c = omega (arith, c.self.invariant.room, c.if-self-eq0.false, c.self.inside.lines.ok.0)

pub invariant_of-self-2 : goal.invariant_of-self-2
invariant_of-self-2 g c =
    let i = c.number.result - 1 in
    let own = own_end c.self.invariant c.cell.invariant c.number.ensures.value c.index_mut-end.ensures.value in
    let l = c.slots_beside.ensures in
    let look = looked c.cell.inside.writer.journal c.slots_beside.new.producer c.index_mut-end.result.now c.slots_beside.new.self
    c.slots_beside.ensures.looked c.slots_beside.ensures.producer c.slots_beside.ensures.fifo in
    let x : StepView g.row.O-Alloc.Denot = c.pop_known-step.result in
    let pre : IsPrefix (x ∷ []) (known_items c.slots_beside.new.self) = (known_items c.pop_known-step.new.self, sym c.pop_known-step.ensures.received.1) in
    let next = comes g.K.BookName.name c.self.inside.lines.items i c.cell.inside.writer.me c.cell.inside.writer.journal c.slots_beside.new.producer
    c.index_mut-end.result.now c.slots_beside.new.self x own.0 (c.self.invariant.each i c.index_mut-end.result.now own.1) look pre in
    let pop : Popped c.slots_beside.new.self x c.slots_beside-number.new.consumer =
    popped c.slots_beside.new.self c.pop_known-step.new.self c.slots_beside-number.new.consumer x
    c.pop_known-step.ensures.ring c.pop_known-step.ensures.received.0 c.slots_beside-number.ensures.consumer.0
    c.slots_beside-number.ensures.consumer.1 in
    let found = found_first c.self.inside.lines.items (known_items c.slots_beside.new.self) x c.peek_known.result.now
    c.peek_known.ensures pre (rw c.as_slice.ensures.value at (c.if-not-is_deliverable.ensures.found.0 refl)) in
    let there = own_told c.self.invariant c.cell.invariant c.number.ensures.value c.index_mut.ensures.value in
    let y : LineView g.row.O-Alloc.Denot = record { number = length c.self.inside.lines.items; step = x } in
    let lines : c.push_reserved.new.self.items ≡ c.self.inside.lines.items ++ y ∷ [] =
    rw (c.new.ensures, c.len-number.ensures, c.self.inside.lines.ok.0) at c.push_reserved.ensures.items in
    let log = rw (c.len-number.ensures, c.self.inside.lines.ok.0) at c.extend_longest_log.ensures.log in
    book_same (node_machine g.O.Object.sequential g.K.BookName.name.group) g.K.BookName.name
    (c.self.inside.lines.items ++ y ∷ []) c.push_reserved.new.self.items
    (c.self.inside.reserved - 1) _ _ _ _ _ _ _ _ _
    (book_enters (node_machine g.O.Object.sequential g.K.BookName.name.group)
    g.K.BookName.name c.self.inside.lines.items c.self.inside.reserved c.self.inside.journal_ends.items
    c.self.inside.answer_indexes.items _ _ _ _ _ i c.cell.inside.writer.me c.cell.inside.writer.is_step_unentered c.cell.inside.node
    c.cell.inside.writer.journal c.slots_beside.new.producer c.index_mut-end.result.now c.slots_beside.new.self
    c.slots_beside-number.new.consumer x
    c.index_mut.result.now c.add_answers.new.self _ own.0 c.self.invariant c.cell.invariant own.1 there c.add_answers.ensures.answers
    c.add_answers.ensures.room c.if-not-is_deliverable.ensures.room look next.last pop found (omega (arith, c.if-self-eq0.false)))
    lines log c.push_reserved.ensures.capacity c.extend_longest_log.ensures.capacity

pub invariant_of-cell-2 : goal.invariant_of-cell-2
invariant_of-cell-2 g c =
    let i = c.number.result - 1 in
    let own = own_end c.self.invariant c.cell.invariant c.number.ensures.value c.index_mut-end.ensures.value in
    let l = c.slots_beside.ensures in
    let look = looked c.cell.inside.writer.journal c.slots_beside.new.producer c.index_mut-end.result.now c.slots_beside.new.self
    c.slots_beside.ensures.looked c.slots_beside.ensures.producer c.slots_beside.ensures.fifo in
    let x : StepView g.row.O-Alloc.Denot = c.pop_known-step.result in
    let pre : IsPrefix (x ∷ []) (known_items c.slots_beside.new.self) = (known_items c.pop_known-step.new.self, sym c.pop_known-step.ensures.received.1) in
    let next = comes g.K.BookName.name c.self.inside.lines.items i c.cell.inside.writer.me c.cell.inside.writer.journal c.slots_beside.new.producer
    c.index_mut-end.result.now c.slots_beside.new.self x own.0 (c.self.invariant.each i c.index_mut-end.result.now own.1) look pre in
    let pop : Popped c.slots_beside.new.self x c.slots_beside-number.new.consumer =
    popped c.slots_beside.new.self c.pop_known-step.new.self c.slots_beside-number.new.consumer x
    c.pop_known-step.ensures.ring c.pop_known-step.ensures.received.0 c.slots_beside-number.ensures.consumer.0
    c.slots_beside-number.ensures.consumer.1 in
    let m = c.slots_beside-number.ensures in
    let free : 0 < known_free c.slots_beside-number.new.self =
    free_again c.cell.inside.writer.journal c.slots_beside.new.producer c.slots_beside-number.new.self
    c.index_mut-end.result.now c.slots_beside.new.self c.slots_beside-number.new.consumer x
    c.slots_beside-number.result look next.alone pop m.looked.0 m.looked.1 m.value m.all_free c.cell.invariant.room in
    cell_enters (node_machine g.O.Object.sequential g.K.BookName.name.group) g.K.BookName.name c.cell.inside.writer.me
    c.cell.inside.writer.is_step_unentered c.cell.inside.node c.cell.inside.writer.journal c.slots_beside-number.new.self _ c.cell.invariant
    (writers c.cell.inside.writer.journal c.slots_beside.new.producer c.slots_beside-number.new.self l.producer.0
    m.looked.0) (m.looked.1 ∙ l.producer.1) free

pub returns : goal.returns
returns g c =
    let i = c.number.result - 1 in
    let own = own_end c.self.invariant c.cell.invariant c.number.ensures.value c.index_mut-end.ensures.value in
    let l = c.slots_beside.ensures in
    let m = c.slots_beside-number.ensures in
    let look = looked c.cell.inside.writer.journal c.slots_beside.new.producer c.index_mut-end.result.now c.slots_beside.new.self
    c.slots_beside.ensures.looked c.slots_beside.ensures.producer c.slots_beside.ensures.fifo in
    let x : StepView g.row.O-Alloc.Denot = c.pop_known-step.result in
    let y : LineView g.row.O-Alloc.Denot = record { number = length c.self.inside.lines.items; step = x } in
    let pre : IsPrefix (x ∷ []) (known_items c.slots_beside.new.self) = (known_items c.pop_known-step.new.self, sym c.pop_known-step.ensures.received.1) in
    let next = comes g.K.BookName.name c.self.inside.lines.items i c.cell.inside.writer.me c.cell.inside.writer.journal c.slots_beside.new.producer
    c.index_mut-end.result.now c.slots_beside.new.self x own.0 (c.self.invariant.each i c.index_mut-end.result.now own.1) look pre in
    let found = found_first c.self.inside.lines.items (known_items c.slots_beside.new.self) x c.peek_known.result.now
    c.peek_known.ensures pre (rw c.as_slice.ensures.value at (c.if-not-is_deliverable.ensures.found.0 refl)) in
    let mine : x.node ≡ c.cell.inside.writer.me = AllOf-last c.cell.inside.writer.me
    (steps_of c.cell.inside.writer.me c.self.inside.lines.items) x
    (subst (λ (xs : List (StepView g.row.O-Alloc.Denot)). AllOf c.cell.inside.writer.me xs) next.last c.cell.invariant.mine) in
    let lines : c.push_reserved.new.self.items ≡ c.self.inside.lines.items ++ y ∷ [] =
    rw (c.new.ensures, c.len-number.ensures, c.self.inside.lines.ok.0) at c.push_reserved.ensures.items in
    rw (← c.self.view_is, ← c.cell.view_is) record {
      step = x;
      was = next.last;
      found = found;
      lines = lines;
      reserved = omega (arith, c.if-self-eq0.false);
      journal = m.looked.1 ∙ (l.producer.1
          ∙ (next.last ∙ (sym (steps_of-own c.cell.inside.writer.me c.self.inside.lines.items y mine)
          ∙ ap (steps_of c.cell.inside.writer.me) (sym lines))));
      cell_is = rw (m.looked.1, l.producer.1) refl;
    }

pub add_answers-requires : goal.add_answers-requires
add_answers-requires g c =
    let i = c.number.result - 1 in
    let there = own_told c.self.invariant c.cell.invariant c.number.ensures.value c.index_mut.ensures.value in
    omega (arith, (c.self.invariant.tells i c.index_mut.result.now there).room, c.if-self-eq0.false)

pub extend_longest_log-requires : goal.extend_longest_log-requires
extend_longest_log-requires g c = omega (arith, c.self.invariant.log_room, c.if-self-eq0.false, c.self.inside.segments.ok.0)
