use Rattle.std.proofs.Common.{◌≡◌, ◌∙◌, sym, ap}
use Rattle.ring_world.specs.WorldView.{WorldView}
use Rattle.ring_world_port.specs.Network.{NetworkView}
use Rattle.ring_world_port.proofs.Groups.{within_intersection}
use Rattle.ring_world_port.proofs.network.Network.cut.Goals as goal

pub invariant_of-self : goal.invariant_of-self
invariant_of-self g c =
    let same : c.fixed.result ≡ c.self.inside.pump.world_view.group = c.fixed.ensures
    ∙ (ap (λ (p : WorldView g.row.O-Alloc.Denot). p.group) c.world.ensures
    ∙ ap (λ (n : NetworkView g.row.O-Alloc.Denot). n.pump.world_view.group) (sym c.self.view_is)) in
    rw (c.intersection-self-inside.ensures.value, c.everybody.ensures.value, same) (within_intersection c.args.group c.self.inside.pump.world_view.group.count)
