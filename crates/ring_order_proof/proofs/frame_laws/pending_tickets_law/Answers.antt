use Rattle.std.proofs.Common.{arith}
use Rattle.ring_node_spec.specs.Worlds.{world_opening, run}
use Rattle.ring_order_proof.proofs.AnswerCounts.{few_answers}
use Rattle.ring_order_proof.proofs.PendingTickets.{pending_few}
use Rattle.ring_order_proof.proofs.frame_laws.pending_tickets_law.Goals as goal

pub returns-clause-pending : goal.returns-clause-pending
returns-clause-pending g c = pending_few g.O.Object.sequential

pub returns-clause-answers : goal.returns-clause-answers
returns-clause-answers g c = λ group events i input.
    let object = g.O.Object.sequential in
    let n = (run object (world_opening group) events).nodes i in
    omega (arith, few_answers object n input, pending_few object group events i)
