-- The effective calls of the longest committed log are the world's order.
use Rattle.std.proofs.Common.{◌≡◌, ap, ◌∙◌, sym, subst}
use Rattle.std.specs.Prelude.{IfOk}
use Rattle.ring_session.specs.Deduplicated.{deduplicated}
use Rattle.ring_node_spec.specs.Worlds.{order}
use Rattle.ring_world.specs.WorldView.{WorldView, world_of}
use Rattle.ring_world.proofs.world.World.order.Goals as goal

pub returns-clause-ok : goal.returns-clause-ok
returns-clause-ok g c =
    let k = c.self.inside in
    let object = g.O.Object.sequential in
    let same = ap deduplicated c.self.invariant.kept.longest_is ∙ sym (c.longest_committed_log_law.ensures.order k.fixed k.run_record.events.items c.self.invariant.few) in
    subst (λ (q : WorldView g.row.O-Alloc.Denot). IfOk c.copy_effective_calls.result (λ calls. calls.items ≡ order (world_of object q))) c.self.view_is
    (subst (λ xs. IfOk c.copy_effective_calls.result (λ calls. calls.items ≡ xs)) same c.copy_effective_calls.ensures.ok)
