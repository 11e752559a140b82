use Rattle.ring_wire.specs.Frames.{length-frame}
use Rattle.ring_order_proof.proofs.frame_laws.frame_size_law.Goals as goal

pub returns : goal.returns
returns g c = length-frame
