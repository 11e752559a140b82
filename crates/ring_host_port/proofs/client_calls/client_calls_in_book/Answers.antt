use Rattle.std.proofs.Common.{subst, sym}
use Rattle.ring_node_spec.specs.Histories.{IsLinearization}
use Rattle.ring_node_spec.specs.Worlds.{order, run, world_opening}
use Rattle.ring_host_port.specs.Books.{events_of, history_of}
use Rattle.ring_host_port.proofs.client_calls.client_calls_in_book.Goals as goal

pub returns-clause-lines : goal.returns-clause-lines
returns-clause-lines g c =
    let group = g.K.BookName.name.group in
    let events = events_of c.args.book.now.lines in
    let w = run g.O.Object.sequential (world_opening group) events in
    let by_run = subst (λ history. IsLinearization g.O.Object.sequential (order w) history)
    c.run_law.ensures.run.history (c.linear_law.ensures.explains group events c.run_law.ensures.few c.run_law.ensures.run.keep) in
    let by_order = subst (λ calls. IsLinearization g.O.Object.sequential calls (history_of c.args.book.now.lines)) (sym c.in_ok-order.ensures.ok) by_run in
    record {
      is_run = c.run_law.ensures.run;
      order = c.in_ok-order.ensures.ok;
      history = c.in_ok-history.ensures.ok;
      explained = subst (λ history. IsLinearization g.O.Object.sequential c.in_ok-order.order.items history) (sym c.in_ok-history.ensures.ok) by_order;
    }

pub returns-clause-calls : goal.returns-clause-calls
returns-clause-calls g c = (c.args.book.now.lines, returns-clause-lines g c)
