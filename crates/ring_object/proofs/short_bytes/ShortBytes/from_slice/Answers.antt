use Rattle.std.proofs.Common.{refl}
use Rattle.ring_object.specs.ShortBytes.{IsPaddedBytes-overwritten}
use Rattle.ring_object.proofs.short_bytes.ShortBytes.from_slice.Goals as goal

pub invariant_of-result : goal.invariant_of-result
invariant_of-result g c = rw c.copy_from_slice.ensures.after (IsPaddedBytes-overwritten g.row.N c.args.bytes.now _ c.requires refl)
