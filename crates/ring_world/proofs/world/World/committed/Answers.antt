-- A node's committed places are a prefix of the longest log, of the node's committed length.
use Rattle.std.proofs.Common.{◌≡◌, ◌-◌, ◌<◌, take, refl, ap, ◌∙◌, sym, subst, arith}
use Rattle.std.specs.Prelude.{IfOk, vec_len}
use Rattle.ring_base.specs.Group.{Group}
use Rattle.ring_log.specs.EpochHistories.{committed_of}
use Rattle.ring_node_spec.specs.Nodes.{Node, node_known_log}
use Rattle.ring_node_spec.specs.Worlds.{whole_epochs_in}
use Rattle.ring_world.specs.WorldView.{WorldView, world_of}
use Rattle.ring_world.proofs.NodePlaces.{Stands, stands, node_is, high}
use Rattle.ring_world.proofs.world.World.committed.Given.{Over}
use Rattle.ring_world.proofs.world.World.committed.Goals.{After-index}
use Rattle.ring_world.proofs.world.World.committed.Goals as goal

-- the node's place in the list
here : (g : Over) (c : After-index g) → Stands g.O.Object.sequential
    (record { group = c.self.inside.fixed; events = c.self.inside.run_record.events.items; told = c.self.inside.run_record.told.items; done = c.self.inside.done })
    c.args.self.now c.self.inside.nodes.items c.self.inside.spares.items c.self.inside.run_record.frames.frames c.self.inside.run_record.history.items
    c.self.inside.run_record.longest.calls c.args.node (c.from-place.result - 1)
here g c =
    let k = c.self.inside in
    let within = c.requires in
    let group = ap (λ (r : WorldView g.row.O-Alloc.Denot). r.group.count) c.self.view_is in
    let same = ap (λ (x : Group). x.count) c.self.invariant.same in
    let many = c.self.invariant.kept.many in
    let low = c.number.ensures.in_range.0 in
    let inside : c.from-place.result - 1 < vec_len k.nodes =
    omega (arith, within, group, same, many, low, c.number.ensures.value, c.from-place.ensures, k.nodes.ok.0) in
    stands c.self.view_is c.self.invariant c.number.ensures.value c.number.ensures.in_range c.from-place.ensures k.nodes.ok.0 refl inside

pub returns-clause-ok : goal.returns-clause-ok
returns-clause-ok g c =
    let k = c.self.inside in
    let object = g.O.Object.sequential in
    let node = c.args.node in
    let at = here g (goal.at.returns-clause-ok g c).After-index in
    let p : WorldView g.row.O-Alloc.Denot = record { group = k.fixed; events = k.run_record.events.items; told = k.run_record.told.items; done = k.done } in
    let w = world_of object p in
    let many = c.committed_len-many.ensures ∙ ap (λ (n : Node g.row.O-Alloc.Denot). (node_known_log n).committed) (node_is at c.index.ensures) in
    let same : take c.committed_len-many.result k.run_record.longest.calls ≡ committed_of k.fixed (whole_epochs_in w node) =
    ap (λ n. take n k.run_record.longest.calls) many ∙ ap (take (node_known_log (w.nodes node)).committed) c.self.invariant.kept.longest_is
    ∙ sym (c.longest_committed_log_law.ensures.takes k.fixed k.run_record.events.items node c.self.invariant.few at.low (high at)) in
    subst (λ (q : WorldView g.row.O-Alloc.Denot). IfOk c.copy_first_calls.result (λ calls. calls.items ≡ committed_of q.group (whole_epochs_in (world_of object q) node)))
    c.self.view_is (subst (λ xs. IfOk c.copy_first_calls.result (λ calls. calls.items ≡ xs)) same c.copy_first_calls.ensures.ok)
