use Rattle.ring_order_proof.proofs.EventGrowth.{run_grows}
use Rattle.ring_order_proof.proofs.frame_laws.event_growth_law.Goals as goal

pub returns-clause-frames : goal.returns-clause-frames
returns-clause-frames g c = λ group events e few fit. (run_grows g.O.Object.sequential group events e few fit).frames

pub returns-clause-history : goal.returns-clause-history
returns-clause-history g c = λ group events e few fit. (run_grows g.O.Object.sequential group events e few fit).history

pub returns-clause-told : goal.returns-clause-told
returns-clause-told g c = λ group events e few fit. (run_grows g.O.Object.sequential group events e few fit).told
