-- Only the queue changes.
use Rattle.std.proofs.Common.{refl}
use Rattle.ring_srp_transitions.proofs.KeptByTransitions.{stands_on}
use Rattle.ring_srp_transitions.proofs.running_core.RunningCore.enqueue.Goals as goal

pub invariant_of-self-2 : goal.invariant_of-self-2
invariant_of-self-2 g c = stands_on c.self.invariant refl refl
