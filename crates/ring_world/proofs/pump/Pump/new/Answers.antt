use Rattle.std.proofs.Common.{refl}
use Rattle.ring_world.specs.OpenCopies.{frames_of}
use Rattle.ring_world.proofs.PumpOpening.{all_open, none_reached}
use Rattle.ring_world.proofs.pump.Pump.new.Goals as goal

pub invariant_of-result : goal.invariant_of-result
invariant_of-result g c = none_reached _ _ c.new-open_copies.ensures

pub returns : goal.returns
returns g c =
    let open_copies = all_open c.new-open_copies.result (frames_of g.O.Object.sequential c.args.world) c.new-open_copies.ensures in
    rw open_copies refl
