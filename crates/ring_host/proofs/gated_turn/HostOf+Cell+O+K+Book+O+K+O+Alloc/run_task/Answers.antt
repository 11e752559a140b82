use Rattle.std.proofs.Common.{◌∙◌, sym}
use Rattle.ring_host.proofs.gated_turn.HostOf+Cell+O+K+Book+O+K+O+Alloc.run_task.Goals as goal

pub returns-clause-gate : goal.returns-clause-gate
returns-clause-gate g c = rw (sym c.node.ensures.node ∙ c.in-Some.is) (c.step_and_send-stepped.ensures.gate, c.at.ensures)
