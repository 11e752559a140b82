-- Only the state of Gather changes.
use Rattle.std.proofs.Common.{ap}
use Rattle.ring_join.specs.Gatherers.{Gatherer}
use Rattle.ring_srp_transitions.proofs.KeptByTransitions.{stands_on}
use Rattle.ring_srp_transitions.proofs.running_core.RunningCore.agree.Goals as goal

pub invariant_of-self : goal.invariant_of-self
invariant_of-self g c = stands_on c.self.invariant
    (ap (λ (x : Gatherer). x.me) c.count_agreement.ensures) (ap (λ (x : Gatherer). x.floor) c.count_agreement.ensures)
