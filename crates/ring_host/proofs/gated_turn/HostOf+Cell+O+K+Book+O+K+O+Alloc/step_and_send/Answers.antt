use Rattle.ring_host.proofs.TasksDone.{dropped_besides}
use Rattle.ring_host.proofs.gated_turn.HostOf+Cell+O+K+Book+O+K+O+Alloc.step_and_send.Goals as goal

pub returns-clause-done : goal.returns-clause-done
returns-clause-done g c =
    dropped_besides g.O.Object.sequential g.K.BookName.name.group c.args.received.now c.args.task c.in_ok-done.done c.push_copies.result c.in_ok-done.ensures.done
