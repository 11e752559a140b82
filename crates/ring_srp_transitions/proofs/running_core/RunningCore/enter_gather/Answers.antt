-- In Gather no other ring is being formed.
use Rattle.std.proofs.Common.{ap, ◌∙◌, sym, refl}
use Rattle.ring_join.specs.Gatherers.{Gatherer}
use Rattle.ring_core_spec.specs.State.{Core, floor}
use Rattle.ring_srp_transitions.proofs.KeptByTransitions.{into_gather}
use Rattle.ring_srp_transitions.proofs.running_core.RunningCore.enter_gather.Goals as goal

pub invariant_of-self : goal.invariant_of-self
invariant_of-self g c =
    into_gather c.self.invariant
    (ap (λ (x : Gatherer). x.me) c.new_gather-gather.ensures ∙ sym (ap (λ (x : Core g.row.A.Denot). x.me) c.self.view_is))
    (ap (λ (x : Gatherer). x.floor) c.new_gather-gather.ensures ∙ sym (ap (λ (x : Core g.row.A.Denot). floor x) c.self.view_is)) refl
