use Rattle.ring_core_proof.proofs.TransitionLimits.{step_fits}
use Rattle.ring_order_proof.proofs.NodeLimits.{node_log_fits, node_sent_fits, stepped_fits}
use Rattle.ring_order_proof.proofs.WorldLimits.{world_fits, sent_fits}
use Rattle.ring_order_proof.proofs.frame_laws.sent_frames_fit_law.Goals as goal

pub returns-clause-frames : goal.returns-clause-frames
returns-clause-frames g c = λ group events few fit. (world_fits g.O.Object.sequential group events few fit).frames

pub returns-clause-numbered : goal.returns-clause-numbered
returns-clause-numbered g c = λ group events number f few fit. sent_fits group _ number f (world_fits g.O.Object.sequential group events few fit)

pub returns-clause-cores : goal.returns-clause-cores
returns-clause-cores g c = λ group events i few fit low high. ((world_fits g.O.Object.sequential group events few fit).nodes i low high).core

pub returns-clause-outs : goal.returns-clause-outs
returns-clause-outs g c = λ group events i input few fit low high w.
    (step_fits _ input (((world_fits g.O.Object.sequential group events few fit).nodes i low high).core) w).outs

pub returns-clause-steps : goal.returns-clause-steps
returns-clause-steps g c = λ group events i input few fit low high w.
    let object = g.O.Object.sequential in
    (stepped_fits object _ ((world_fits object group events few fit).nodes i low high) input w).sends

pub returns-clause-handed : goal.returns-clause-handed
returns-clause-handed g c = λ group events i s older few fit low high there.
    node_sent_fits _ s older ((world_fits g.O.Object.sequential group events few fit).nodes i low high) there

pub returns-clause-logs : goal.returns-clause-logs
returns-clause-logs g c = λ group events i few fit low high. node_log_fits _ ((world_fits g.O.Object.sequential group events few fit).nodes i low high)
