-- Calls of events within the limits of snapshots are within those of frames; so is each event that may be a step.
use Rattle.std.proofs.Common.{◌≡◌, ℕ, List, Some}
use Rattle.std.specs.List.{AllByRecursion}
use Rattle.ring_base.proofs.Each.{each-weaker}
use Rattle.ring_node_spec.specs.declared.event.Event.{Event}
use Rattle.ring_node_spec.specs.declared.event.Event.TheVariants.{Issue, Deliver, Noise, Timeout, Stop}
use Rattle.ring_node_spec.specs.WorldLimits.{EventFits}
use Rattle.ring_node_spec.specs.Worlds.{World}
use Rattle.ring_order_proof.specs.Linear.{IsEventCallWithinLimits}
use Rattle.ring_world.specs.WorldView.{stepping_node_in}

event_fits : {A : Type 0} (e : Event A) → IsEventCallWithinLimits e → EventFits e
event_fits (Issue i c) keeps = keeps.fits
event_fits (Deliver i k) keeps = tt
event_fits (Noise i bytes) keeps = tt
event_fits (Timeout i kind) keeps = tt
event_fits (Stop i) keeps = tt

pub all_fit : {A : Type 0} (events : List (Event A)) → AllByRecursion IsEventCallWithinLimits events → AllByRecursion EventFits events
all_fit events keep = each-weaker IsEventCallWithinLimits EventFits event_fits events keep

pub step_keeps : {A : Type 0} (w : World A) (e : Event A) (i : ℕ) → stepping_node_in w e ≡ Some i → IsEventCallWithinLimits e
step_keeps w (Issue j c) i e = absurd (let q : ⊥ = cc e in q)
step_keeps w (Deliver j k) i e = tt
step_keeps w (Noise j bytes) i e = tt
step_keeps w (Timeout j kind) i e = tt
step_keeps w (Stop j) i e = tt
