-- The outputs of the cores in a run are a prefix of those in a longer run.
use Rattle.std.proofs.Common.{◌≡◌, ℕ, List, ◌++◌, ap, sym, ◌∙◌, subst}
use Rattle.ring_base.specs.Prefixes.{IsListPrefix}
use Rattle.ring_base.specs.Group.{Group}
use Rattle.ring_object.specs.Operations.{Sequential}
use Rattle.ring_core_spec.specs.declared.out.Out.{Out}
use Rattle.ring_node_spec.specs.declared.event.Event.{Event}
use Rattle.ring_node_spec.specs.Worlds.{world_opening}
use Rattle.ring_order_proof.specs.Projection.{core_events_of_run}
use Rattle.ring_order_proof.proofs.ProjectedEvents.{outs_grow}
use Rattle.ring_world.specs.WorldView.{WorldView}
use Rattle.ring_world.proofs.Playing.{IsLonger}

pub longer_told : {O A : Type 0} (object : Sequential O) (p q : WorldView A) → IsLonger object p q →
    IsListPrefix (core_events_of_run object (world_opening p.group) p.events).outs (core_events_of_run object (world_opening q.group) q.events).outs
longer_told {O} {A} object p q l =
    let given : Group → List (Event A) → List (ℕ × Out A) = λ group events. (core_events_of_run object (world_opening group) events).outs in
    let same : given p.group (p.events ++ l.later) ≡ given q.group q.events =
    ap (given p.group) (sym l.events) ∙ ap (λ group. given group q.events) (sym l.group) in
    subst (λ (xs : List (ℕ × Out A)). IsListPrefix (given p.group p.events) xs) same (outs_grow object p.group p.events l.later)
