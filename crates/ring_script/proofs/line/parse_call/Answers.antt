use Rattle.std.proofs.Common.{◌≤◌, length}
use Rattle.ring_script.specs.Lines.{call_at}
use Rattle.ring_script.proofs.Lengths.{operation_short, call_refused}
use Rattle.ring_script.proofs.line.parse_call.Goals as goal

pub returns-in-Err : goal.returns-in-Err
returns-in-Err g c =
    let short : length c.as_slice.result.now ≤ 1024 = rw c.as_slice.ensures.value (operation_short g.V.Vocabulary.forms _ _ g.V.Vocabulary.short c.in_ok-encode_operation.ensures) in
    call_refused g.row.A.Denot c.in-Err.fault c.in_ok-client.field-0 c.in_ok-number.number
    c.as_slice.result.now (call_at g.V.Vocabulary.forms c.args.nodes c.args.words.now) short c.in_ok-number.ensures.within.0
    c.in-Err.ensures
