-- The ring part of every run of nodes is virtually synchronous.
use Rattle.std.proofs.Common.{List, ap, ◌∙◌, subst}
use Rattle.ring_base.specs.Group.{Group}
use Rattle.ring_object.specs.Operations.{Sequential}
use Rattle.ring_core_proof.specs.Worlds.{World as RingWorld}
use Rattle.ring_node_spec.specs.declared.event.Event.{Event}
use Rattle.ring_node_spec.specs.Worlds.{world_opening, run}
use Rattle.ring_synchrony_proof.specs.Chains.{NameSameMembers, SafeOutputsAreSafe, OutputsAreHeld}
use Rattle.ring_synchrony_proof.proofs.Chains.{unformed_told, unformed_same_members, unformed_held}
use Rattle.ring_synchrony_proof.proofs.Installed.{all_synchronous}
use Rattle.ring_synchrony_proof.specs.Synchrony.{IsVirtuallySynchronous}
use Rattle.ring_order_proof.specs.Projection.{ring_part}
use Rattle.ring_order_proof.specs.Synchronous.{IsSynchronous}
use Rattle.ring_order_proof.proofs.ProjectedEvents.{projected}

pub synchronous_run : {O A : Type 0} (object : Sequential O) (group : Group) (events : List (Event A))
    → IsSynchronous object group events
synchronous_run {O} {A} object group events =
    let p = projected object group events in
    let r = p.ring in
    let part = r.part ∙ ap (ring_part (run object (world_opening group) events)) p.outs_are in
    record {
      projected = p;
      synchronous = subst (λ (x : RingWorld A). IsVirtuallySynchronous x) part (all_synchronous group.count r.events);
      members = subst (λ (x : RingWorld A). NameSameMembers x.cores) part (unformed_same_members group.count r.events);
      held = subst (λ (x : RingWorld A). OutputsAreHeld x) part (unformed_held group.count r.events);
      safe = subst (λ (x : RingWorld A). SafeOutputsAreSafe x) part (unformed_told group.count r.events);
    }
