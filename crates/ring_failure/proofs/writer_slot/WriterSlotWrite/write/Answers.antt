use Rattle.ring_failure.proofs.WriterSlotLemmas.{named_written}
use Rattle.ring_failure.proofs.writer_slot.WriterSlotWrite.write.Goals as goal

pub returns-in-Some-clause-bytes : goal.returns-in-Some-clause-bytes
returns-in-Some-clause-bytes g c = rw c.in-Some.is (named_written _ _ _ c.write.result _ c.write.ensures.bytes)
