use Rattle.ring_order_proof.proofs.ProjectedEvents.{projected, events_grow, outs_grow}
use Rattle.ring_order_proof.proofs.projection_laws.projection_law.Goals as goal

pub returns-clause-ring : goal.returns-clause-ring
returns-clause-ring g c = projected g.O.Object.sequential

pub returns-clause-events_grow : goal.returns-clause-events_grow
returns-clause-events_grow g c = events_grow g.O.Object.sequential

pub returns-clause-outs_grow : goal.returns-clause-outs_grow
returns-clause-outs_grow g c = outs_grow g.O.Object.sequential
