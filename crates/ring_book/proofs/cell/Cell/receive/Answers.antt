-- A step of the node on a received frame, from the result of the node's own call.
use Rattle.std.proofs.Common.{refl, ap}
use Rattle.ring_base.proofs.Results.{on-ok}
use Rattle.ring_book_lines.specs.declared.input.LineInput.TheVariants.{Received}
use Rattle.ring_node_spec.specs.declared.input.Input.TheVariants.{Frame as Comes}
use Rattle.ring_book.proofs.CellSteps.{stepped_on, cell_after, returned_after}
use Rattle.ring_book.proofs.NodeFrameLimits.{node_sound}
use Rattle.ring_book.proofs.cell.Cell.receive.Goals as goal

pub add_step_or_stop-requires-clause-sends : goal.add_step_or_stop-requires-clause-sends
add_step_or_stop-requires-clause-sends g c =
    on-ok c.receive_into-stepped.result _ _
    (λ e. rw e (c.node_fits_law.ensures.sends c.self.inside.node (Comes c.args.frame.now) c.self.invariant.sound c.requires.fits))
    c.receive_into-stepped.ensures.sends

pub add_step_or_stop-requires-clause-free : goal.add_step_or_stop-requires-clause-free
add_step_or_stop-requires-clause-free g c = c.self.invariant.free c.if-self.false

pub invariant_of-self : goal.invariant_of-self
invariant_of-self g c =
    let object = g.O.Object.sequential in
    let group = g.K.BookName.name.group in
    let e = c.receive_into-stepped.ensures in
    cell_after object group g.K.BookName.name c.receive_into-stepped.result c.self.inside.writer c.add_step_or_stop.new.self
    c.self.inside.node c.receive_into-stepped.new.self _ c.args.at c.self.invariant refl
    (stepped_on object group c.receive_into-stepped.result c.self.inside.node c.receive_into-stepped.new.self (Comes c.args.frame.now) c.args.at _
    c.requires.fits (ap (λ f. Received (Comes f) c.args.at) c.new.ensures) c.committed_len-committed.ensures e.runs e.ok e.sends e.answers e.committed e.err e.refused)
    c.add_step_or_stop.ensures.added c.add_step_or_stop.ensures.room
    (λ l stepped. node_sound object group c.node_fits_law.ensures.step c.node_fits_law.ensures.submit
    c.self.inside.node l c.receive_into-stepped.new.self c.self.invariant.sound stepped)

pub returns : goal.returns
returns g c =
    let object = g.O.Object.sequential in
    let group = g.K.BookName.name.group in
    let e = c.receive_into-stepped.ensures in
    let by = ap (λ f. Received (Comes f) c.args.at) c.new.ensures in
    rw (c.add_step_or_stop.ensures.same, ← c.self.view_is) (returned_after object group c.receive_into-stepped.result c.self.inside.writer c.add_step_or_stop.new.self
    c.self.inside.node c.receive_into-stepped.new.self _ (Comes c.args.frame.now) c.args.at c.if-self.false refl by
    (stepped_on object group c.receive_into-stepped.result c.self.inside.node c.receive_into-stepped.new.self (Comes c.args.frame.now) c.args.at _
    c.requires.fits by c.committed_len-committed.ensures e.runs e.ok e.sends e.answers e.committed e.err e.refused)
    c.add_step_or_stop.ensures.added (λ is. absurd (cc is)))
