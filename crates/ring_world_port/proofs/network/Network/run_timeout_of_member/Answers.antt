use Rattle.std.proofs.Common.{◌≡◌, ◌%◌, ◌<◌, ◌∙◌, sym, ap, arith}
use Rattle.ring_base.specs.Processors.{size}
use Rattle.ring_world.specs.WorldView.{WorldView}
use Rattle.ring_world_port.specs.Network.{NetworkView}
use Rattle.ring_world_port.proofs.Groups.{at_known}
use Rattle.ring_world_port.proofs.network.Network.run_timeout_of_member.Goals as goal

pub node-requires : goal.node-requires
node-requires g c =
    let members : c.from-members.result ≡ size c.self.inside.group = c.from-members.ensures ∙ c.len.ensures.value in
    let inside : c.self.inside.timeouts % c.from-members.result < size c.self.inside.group = omega (arith, members, c.if-members-eq0.false) in
    let found = rw c.unwrap-node.ensures at c.at.ensures.found in
    let count : c.world.result.now.group.count ≡ c.self.inside.pump.world_view.group.count =
    ap (λ (p : WorldView g.row.O-Alloc.Denot). p.group.count) c.world.ensures
    ∙ ap (λ (n : NetworkView g.row.O-Alloc.Denot). n.pump.world_view.group.count) (sym c.self.view_is) in
    rw (found, count) (at_known c.self.inside.group c.self.inside.pump.world_view.group.count
    (c.self.inside.timeouts % c.from-members.result) c.self.invariant inside)
