use Rattle.ring_failure.proofs.WriterSlotLemmas.{named_all_written}
use Rattle.ring_failure.proofs.writer_slot.WriterSlotWrite.write_all.Goals as goal

pub returns-in-Some : goal.returns-in-Some
returns-in-Some g c = rw c.in-Some.is record { bytes = named_all_written _ _ _ c.write_all.result _ c.write_all.ensures.bytes }
