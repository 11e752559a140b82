-- The vector has the bytes read into the buffer; if there were less, fewer bytes are taken.
use Rattle.std.proofs.Common.{◌<◌, vec_capacity, arith}
use Rattle.std.proofs.KnownBytes.{Keeps-refl}
use Rattle.ring_base.proofs.Results.{on-err}
use Rattle.ring_records.proofs.Parts.{none_kept, some_without_room}
use Rattle.ring_records.proofs.reading.read_bytes.Goals as goal

pub returns-in_err-resize-clause-part : goal.returns-in_err-resize-clause-part
returns-in_err-resize-clause-part g c =
    let some : 0 < c.from.result = some_without_room c.from.result (vec_capacity c.clear.new.self) (λ fits. cc (c.in_err-resize.ensures.succeeds fits)) in
    on-err c.from_residual.result _ (none_kept c.args.count _ _ (omega (arith, some)) (Keeps-refl _))

pub returns-else-fill_from_input-clause-part : goal.returns-else-fill_from_input-clause-part
returns-else-fill_from_input-clause-part g c =
    let part = c.fill_from_input.ensures.part c.if-fill_from_input.false in
    (part.0, part.1, omega (arith, part.2, c.in_ok-resize.ensures.len))
