-- The node has stopped, whether its step was refused or not.
use Rattle.std.proofs.Common.{◌≡◌}
use Rattle.ring_base.proofs.Results.{either}
use Rattle.ring_node_spec.specs.Nodes.{node_stopped}
use Rattle.ring_world.proofs.world.stop_node.Goals as goal

pub returns : goal.returns
returns g c = either c.step_into.result (c.step_into.new.self ≡ node_stopped c.args.node.now) c.step_into.ensures.ok c.step_into.ensures.err
