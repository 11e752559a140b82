-- If refused, less than a record is taken: nothing, a prefix of its kind and length, or both and fewer bytes than the length.
use Rattle.std.proofs.Common.{arith}
use Rattle.ring_base.proofs.Results.{on-err}
use Rattle.ring_records.proofs.Parts.{unfinished_none, unfinished_head, unfinished_bytes}
use Rattle.ring_records.proofs.reading.read_record.Goals as goal

pub returns-in_err-kind-clause-part : goal.returns-in_err-kind-clause-part
returns-in_err-kind-clause-part g c = on-err c.from_residual.result _ (unfinished_none _ _ c.in_err-kind.ensures.kept)

pub returns-in_err-length-clause-part : goal.returns-in_err-length-clause-part
returns-in_err-length-clause-part g c =
    let first = rw c.in-Some.is at c.in_ok-kind.ensures.next in
    on-err c.from_residual-in_err-length.result _ (unfinished_head _ _ _ c.in-Some.kind first c.in_err-length.ensures.part)

pub returns-in_err-read_bytes-clause-part : goal.returns-in_err-read_bytes-clause-part
returns-in_err-read_bytes-clause-part g c =
    let first = rw c.in-Some.is at c.in_ok-kind.ensures.next in
    on-err c.from_residual-in_err-read_bytes.result _
    (unfinished_bytes _ _ _ _ c.in-Some.kind c.in_ok-length.length (omega arith) first c.in_ok-length.ensures.bytes c.in_err-read_bytes.ensures.part)
