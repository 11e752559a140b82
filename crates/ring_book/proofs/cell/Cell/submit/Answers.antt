use Rattle.std.proofs.Common.{refl, ap}
use Rattle.std.proofs.lemmas.Result.{err_from_is_err_and}
use Rattle.ring_book_lines.specs.Machines.{node_machine}
use Rattle.ring_book_lines.specs.Runs.{IsStep}
use Rattle.ring_book_lines.specs.declared.input.LineInput.TheVariants.{Submitted}
use Rattle.ring_book.proofs.CellSteps.{cell_with, journaled}
use Rattle.ring_book.proofs.NodeFrameLimits.{node_sound}
use Rattle.ring_book.proofs.Stops.{node_refuses}
use Rattle.ring_book.proofs.cell.Cell.submit.Goals as goal

pub add-requires : goal.add-requires
add-requires g c = c.self.invariant.free c.if-self.false

pub invariant_of-self-2 : goal.invariant_of-self-2
invariant_of-self-2 g c =
    let object = g.O.Object.sequential in
    let group = g.K.BookName.name.group in
    let m = node_machine object group in
    let e = c.in_ok-ticket.ensures in
    let l = c.submit_of-step.result in
    let stepped : IsStep m c.self.inside.node l c.submit_borrowed.new.self = rw c.submit_of-step.ensures record {
      fits = c.call_fits_snapshot_law.ensures c.requires;
      makes = (e.taken, e.ok, refl, refl, refl);
      committed = c.committed_len-places.ensures;
    } in
    cell_with object group g.K.BookName.name c.self.inside.writer c.add.new.self c.self.inside.node c.submit_borrowed.new.self l
    c.self.invariant (ap (λ x. x.node) c.submit_of-step.ensures) stepped
    (node_sound object group c.node_fits_law.ensures.step c.node_fits_law.ensures.submit
    c.self.inside.node l c.submit_borrowed.new.self c.self.invariant.sound stepped) c.add.ensures.added (rw c.add.ensures.text c.self.invariant.text)

pub returns-clause-given : goal.returns-clause-given
returns-clause-given g c =
    let object = g.O.Object.sequential in
    let group = g.K.BookName.name.group in
    let m = node_machine object group in
    let e = c.in_ok-ticket.ensures in
    let l = c.submit_of-step.result in
    let stepped : IsStep m c.self.inside.node l c.submit_borrowed.new.self = rw c.submit_of-step.ensures record {
      fits = c.call_fits_snapshot_law.ensures c.requires;
      makes = (e.taken, e.ok, refl, refl, refl);
      committed = c.committed_len-places.ensures;
    } in
    rw (← c.self.view_is) (
      e.ticket,
      journaled object group c.self.inside.writer c.add.new.self c.self.inside.node c.submit_borrowed.new.self l (Submitted c.args.call)
          (ap (λ x. x.node) c.submit_of-step.ensures) (ap (λ x. x.input) c.submit_of-step.ensures) c.if-self.false stepped c.add.ensures.added,
    )

pub returns-in_err-ticket-clause-given : goal.returns-in_err-ticket-clause-given
returns-in_err-ticket-clause-given g c =
    let p = err_from_is_err_and c.from_residual.result c.from_residual.ensures.1 in
    rw (p.1, p.2, ← c.self.view_is) (node_refuses c.self.inside.writer.is_step_unentered _ _ c.if-self.false c.in_err-ticket.ensures.refused)
