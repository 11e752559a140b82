-- The core after the payloads so far; it runs.
use Rattle.std.proofs.Common.{◌≡◌, false}
use Rattle.ring_replica.specs.NodeSpec.{is_stopped, handed_over}
use Rattle.ring_node.proofs.core_with_replica.hand_payloads_to_core.Given as goal

abbrev pub invariant-loop-payload : goal.invariant-loop-payload
invariant-loop-payload g l = record {
  core : l.core ≡ handed_over l.fn.core l.yielded;
  going : is_stopped l.core.state ≡ false;
}
