use Rattle.ring_world_port.proofs.Groups.{within_everybody}
use Rattle.ring_world_port.proofs.network.Network.new.Goals as goal

pub invariant_of-result : goal.invariant_of-result
invariant_of-result g c = rw (c.everybody-group.ensures.value, c.fixed.ensures, c.new.ensures) (within_everybody c.args.world.group.count)
