use Rattle.ring_world_port.specs.Network.{NetworkView}
use Rattle.ring_world_port.proofs.PortTurn.{has_come}
use Rattle.ring_base.proofs.Results.{on-ok}
use Rattle.ring_world_port.proofs.network.Network.turn.Goals as goal

pub returns-in-Some-clause-ok : goal.returns-in-Some-clause-ok
returns-in-Some-clause-ok g c =
    let n : NetworkView g.row.O-Alloc.Denot = record { pump = c.self.inside.pump; group = c.self.inside.group; timeouts = c.self.inside.timeouts } in
    rw (← c.self.view_is) (on-ok c.deliver_or_lose.result _ _
    (λ comes. has_come g.O.Object.sequential n c.deliver_or_lose.new.self c.close_first_copy.new.self c.in-Some.ensures.world_view
    c.in-Some.open_copy c.in-Some.ensures.takes comes c.deliver_or_lose.ensures.group c.deliver_or_lose.ensures.timeouts) c.deliver_or_lose.ensures.ok)
