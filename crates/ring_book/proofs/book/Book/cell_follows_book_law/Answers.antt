use Rattle.std.proofs.Common.{List, subst, sym}
use Rattle.ring_base.specs.Prefixes.{IsListPrefix}
use Rattle.ring_session.specs.Deduplicated.{deduplicated}
use Rattle.ring_node_spec.specs.Worlds.{order, run, world_opening}
use Rattle.ring_order_proof.specs.Linear.{HasCommittedPlaces, FollowsOrder}
use Rattle.ring_book_lines.specs.Events.{events_of}
use Rattle.ring_book_lines.specs.Lines.{steps_of}
use Rattle.ring_book_lines.specs.Logs.{committed_calls_of}
use Rattle.ring_book_lines.specs.Machines.{node_machine}
use Rattle.ring_book_lines.specs.Runs.{LeadsToState}
use Rattle.ring_book_lines.specs.Steps.{StepView}
use Rattle.ring_book.proofs.book.Book.cell_follows_book_law.Goals as goal

pub returns-clause-node : goal.returns-clause-node
returns-clause-node g c = rw (← c.self.view_is, ← c.cell.view_is) (λ entered.
    let group = g.K.BookName.name.group in
    let m = node_machine g.O.Object.sequential group in
    c.book_run_law.ensures.nodes group c.self.inside.lines.items c.cell.inside.writer.me c.cell.inside.node c.self.invariant.few
    c.cell.invariant.counted c.cell.invariant.in_book c.self.invariant.run
    (subst (λ (xs : List (StepView g.row.O-Alloc.Denot)). LeadsToState m (m.opening c.cell.inside.writer.me) xs c.cell.inside.node) entered c.cell.invariant.leads))

pub returns-clause-member : goal.returns-clause-member
returns-clause-member g c = rw (← c.cell.view_is) (c.cell.invariant.counted, c.cell.invariant.in_book)

pub returns-clause-prefix : goal.returns-clause-prefix
returns-clause-prefix g c = rw (← c.self.view_is, ← c.cell.view_is) (
    let object = g.O.Object.sequential in
    let group = g.K.BookName.name.group in
    let lines = c.self.inside.lines.items in
    let events = events_of lines in
    let me = c.cell.inside.writer.me in
    let done = c.book_run_law.ensures.runs group lines c.self.invariant.few c.self.invariant.run in
    subst (λ calls. IsListPrefix (deduplicated calls) (order (run object (world_opening group) events)))
    (done.committed me c.cell.invariant.counted c.cell.invariant.in_book)
    (c.linear_law.ensures.fronts group events me c.self.invariant.few c.cell.invariant.counted c.cell.invariant.in_book))

pub returns-clause-follows : goal.returns-clause-follows
returns-clause-follows g c = rw (← c.self.view_is, ← c.cell.view_is) (λ entered.
    let object = g.O.Object.sequential in
    let group = g.K.BookName.name.group in
    let m = node_machine object group in
    let lines = c.self.inside.lines.items in
    let events = events_of lines in
    let w = run object (world_opening group) events in
    let me = c.cell.inside.writer.me in
    let done = c.book_run_law.ensures.runs group lines c.self.invariant.few c.self.invariant.run in
    let law = c.linear_law.ensures.follows group events me c.self.invariant.few done.keep c.cell.invariant.counted c.cell.invariant.in_book in
    let by_lines = subst (λ calls. HasCommittedPlaces object (w.nodes me) calls × FollowsOrder object (w.nodes me) calls (order w))
    (done.committed me c.cell.invariant.counted c.cell.invariant.in_book) law in
    let is_node = c.book_run_law.ensures.nodes group lines me c.cell.inside.node c.self.invariant.few
    c.cell.invariant.counted c.cell.invariant.in_book c.self.invariant.run
    (subst (λ (xs : List (StepView g.row.O-Alloc.Denot)). LeadsToState m (m.opening me) xs c.cell.inside.node) entered c.cell.invariant.leads) in
    subst (λ node. HasCommittedPlaces object node (committed_calls_of me lines) × FollowsOrder object node (committed_calls_of me lines) (order w))
    (sym is_node) by_lines)
