use Rattle.ring_failure.proofs.WriterSlotLemmas.{named_kept}
use Rattle.ring_failure.proofs.writer_slot.WriterSlotWrite.flush.Goals as goal

pub returns-in-Some : goal.returns-in-Some
returns-in-Some g c = rw c.in-Some.is record { bytes = named_kept _ _ _ c.flush.ensures.bytes }
