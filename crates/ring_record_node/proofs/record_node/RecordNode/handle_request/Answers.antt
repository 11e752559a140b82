use Rattle.ring_record_node.proofs.record_node.RecordNode.handle_request.Goals as goal

pub operation_in-requires : goal.operation_in-requires
operation_in-requires g c = c.requires c.in-Call.client c.in-Call.number c.in-Call.is
