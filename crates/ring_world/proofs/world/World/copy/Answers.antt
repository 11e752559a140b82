-- The copy's fields represent the same world.
use Rattle.std.proofs.Common.{List, ap, ◌∙◌}
use Rattle.ring_node_spec.specs.declared.event.Event.{Event}
use Rattle.ring_node_spec.specs.declared.client_report.Told.{Told}
use Rattle.ring_world.specs.WorldView.{WorldView}
use Rattle.ring_world.proofs.Copying.{copied}
use Rattle.ring_world.proofs.world.World.copy.Goals as goal

pub invariant_of-result : goal.invariant_of-result
invariant_of-result g c =
    let kept = c.in_ok-run_record.ensures in
    copied c.self.invariant kept.events (c.in_ok-nodes.ensures.ok ∙ c.deref.ensures.value) c.in_ok-spares.ensures.cases.0
    kept.frames kept.history kept.told kept.longest

pub returns-clause-ok : goal.returns-clause-ok
returns-clause-ok g c =
    let k = c.self.inside in
    let view : List (Event g.row.O-Alloc.Denot) → List (Told g.row.O-Alloc.Denot) → WorldView g.row.O-Alloc.Denot = λ es ts. record {
      group = k.fixed;
      events = es;
      told = ts;
      done = k.done;
    } in
    ap (λ es. view es c.in_ok-run_record.run_record.told.items) c.in_ok-run_record.ensures.events ∙ (ap (view k.run_record.events.items) c.in_ok-run_record.ensures.told ∙ c.self.view_is)
