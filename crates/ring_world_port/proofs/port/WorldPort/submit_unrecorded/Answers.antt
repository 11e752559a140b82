use Rattle.ring_world_port.proofs.Submits.{asked_in_vain}
use Rattle.ring_world_port.proofs.port.WorldPort.submit_unrecorded.Goals as goal

pub returns-clause-why : goal.returns-clause-why
returns-clause-why g c = asked_in_vain g.O.Object.sequential _ _ _ _ c.submit_for_ticket.result c.submit_for_ticket.ensures.refused
