-- The request was carried out, also where the output failed.
use Rattle.ring_record_node.proofs.Writing.{call_long, written, tells_taken}
use Rattle.ring_record_node.proofs.record_node.RecordNode.take.Goals as goal

pub handle_request-requires : goal.handle_request-requires
handle_request-requires g c = call_long _ _ _ c.in-Some.ensures.asks

pub returns-in-Ok-clause-taken : goal.returns-in-Ok-clause-taken
returns-in-Ok-clause-taken g c =
    λ is. written c.handle_request.result _ _ _ _ c.in-Ok.is
    (tells_taken g.O.Object.sequential c.handle_request.result _ _ _ _ _ _ _ c.in-Some.ensures.asks c.handle_request.ensures)

pub returns-in-Err-clause-done : goal.returns-in-Err-clause-done
returns-in-Err-clause-done g c =
    let all = tells_taken g.O.Object.sequential c.handle_request.result _ _ _ _ _ _ _ c.in-Some.ensures.asks c.handle_request.ensures in
    (all.text, all.holds)
