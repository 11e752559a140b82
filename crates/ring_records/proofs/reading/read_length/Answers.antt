-- If refused, none of the two bytes is taken, or only the first.
use Rattle.std.proofs.Common.{[], ◌∷◌, arith}
use Rattle.ring_base.proofs.Results.{on-err}
use Rattle.ring_records.proofs.Parts.{fewer_kept, none_kept}
use Rattle.ring_records.proofs.reading.read_length.Goals as goal

pub returns-in_err-high-clause-part : goal.returns-in_err-high-clause-part
returns-in_err-high-clause-part g c = on-err c.from_residual.result _ (none_kept 2 _ _ (omega arith) c.in_err-high.ensures.kept)

pub returns-in_default-clause-part : goal.returns-in_default-clause-part
returns-in_default-clause-part g c =
    let none = rw c.in_default.is at c.in_ok-high.ensures.next in
    none_kept 2 _ _ (omega arith) none.0

pub returns-in_err-low-clause-part : goal.returns-in_err-low-clause-part
returns-in_err-low-clause-part g c =
    let first = rw c.in-Some.is at c.in_ok-high.ensures.next in
    on-err c.from_residual-in_err-low.result _ (fewer_kept 2 _ _ _ (c.in-Some.high ∷ []) first (omega arith) c.in_err-low.ensures.kept)

pub returns-in_default-2-clause-part : goal.returns-in_default-2-clause-part
returns-in_default-2-clause-part g c =
    let first = rw c.in-Some.is at c.in_ok-high.ensures.next in
    let none = rw c.in_default-2.is at c.in_ok-low.ensures.next in
    fewer_kept 2 _ _ _ (c.in-Some.high ∷ []) first (omega arith) none.0
