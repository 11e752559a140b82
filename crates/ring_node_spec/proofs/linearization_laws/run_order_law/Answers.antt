-- The laws are the lemmas on steps and runs.
use Rattle.ring_node_spec.proofs.Orders.{order_of-opening, order_of-fronts, order-run, linear-step, linear-run, linear-opening, opening-agrees, agrees-run}
use Rattle.ring_node_spec.specs.Orders.{opening, last_moment}
use Rattle.ring_node_spec.proofs.linearization_laws.run_order_law.Goals as goal

pub returns-clause-opens : goal.returns-clause-opens
returns-clause-opens g c = λ n. order_of-opening n

pub returns-clause-explains : goal.returns-clause-explains
returns-clause-explains g c = λ n moments run.
    linear-run g.O.Object.sequential (opening n) moments run (linear-opening g.O.Object.sequential n)

pub returns-clause-step : goal.returns-clause-step
returns-clause-step g c = linear-step g.O.Object.sequential

pub returns-clause-grows : goal.returns-clause-grows
returns-clause-grows g c = order-run g.O.Object.sequential

pub returns-clause-fronts : goal.returns-clause-fronts
returns-clause-fronts g c = λ n moments node calls run at.
    order_of-fronts (last_moment (opening n) moments).committed node calls
    (agrees-run g.O.Object.sequential (opening n) moments run (opening-agrees n)) at
