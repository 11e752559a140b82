-- A step of the node, from the result of the node's own call.
use Rattle.std.proofs.Common.{refl}
use Rattle.ring_base.proofs.Results.{on-ok}
use Rattle.ring_book.proofs.CellSteps.{stepped_on, cell_after, returned_after}
use Rattle.ring_book.proofs.NodeFrameLimits.{node_sound}
use Rattle.ring_book.proofs.cell.Cell.step.Goals as goal

pub add_step_or_stop-requires-clause-sends : goal.add_step_or_stop-requires-clause-sends
add_step_or_stop-requires-clause-sends g c =
    on-ok c.step_into-stepped.result _ _
    (λ e. rw e (c.node_fits_law.ensures.sends c.self.inside.node c.args.input c.self.invariant.sound c.requires))
    c.step_into-stepped.ensures.sends

pub add_step_or_stop-requires-clause-free : goal.add_step_or_stop-requires-clause-free
add_step_or_stop-requires-clause-free g c = c.self.invariant.free c.if-self.false

pub invariant_of-self : goal.invariant_of-self
invariant_of-self g c =
    let object = g.O.Object.sequential in
    let group = g.K.BookName.name.group in
    let e = c.step_into-stepped.ensures in
    cell_after object group g.K.BookName.name c.step_into-stepped.result c.self.inside.writer c.add_step_or_stop.new.self
    c.self.inside.node c.step_into-stepped.new.self _ c.args.at c.self.invariant refl
    (stepped_on object group c.step_into-stepped.result c.self.inside.node c.step_into-stepped.new.self c.args.input c.args.at _
    c.requires refl c.committed_len-committed.ensures e.runs e.ok e.sends e.answers e.committed e.err e.refused)
    c.add_step_or_stop.ensures.added c.add_step_or_stop.ensures.room
    (λ l stepped. node_sound object group c.node_fits_law.ensures.step c.node_fits_law.ensures.submit
    c.self.inside.node l c.step_into-stepped.new.self c.self.invariant.sound stepped)

pub returns : goal.returns
returns g c =
    let object = g.O.Object.sequential in
    let group = g.K.BookName.name.group in
    let e = c.step_into-stepped.ensures in
    rw (c.add_step_or_stop.ensures.same, ← c.self.view_is) (returned_after object group c.step_into-stepped.result c.self.inside.writer c.add_step_or_stop.new.self
    c.self.inside.node c.step_into-stepped.new.self _ c.args.input c.args.at c.if-self.false refl refl
    (stepped_on object group c.step_into-stepped.result c.self.inside.node c.step_into-stepped.new.self c.args.input c.args.at _
    c.requires refl c.committed_len-committed.ensures e.runs e.ok e.sends e.answers e.committed e.err e.refused)
    c.add_step_or_stop.ensures.added e.stops)
