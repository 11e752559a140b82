use Rattle.std.proofs.KnownBytes.{Appends-trans, Appends-kept}
use Rattle.ring_record_node.proofs.Writing.{none_written}
use Rattle.ring_record_node.proofs.serving.write_some.Goals as goal

pub returns-in-Ok-clause-front : goal.returns-in-Ok-clause-front
returns-in-Ok-clause-front g c = Appends-trans _ _ _ _ _ (none_written _ _ c.loop.invariant) c.in-Ok.ensures.bytes

pub returns-in-Err-2-clause-front : goal.returns-in-Err-2-clause-front
returns-in-Err-2-clause-front g c = Appends-kept _ _ _ _ (none_written _ _ c.loop.invariant) c.in-Err-2.ensures.bytes

pub returns-clause-front : goal.returns-clause-front
returns-clause-front g c = none_written _ _ c.loop.invariant
