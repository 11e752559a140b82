use Rattle.ring_session.specs.Snapshots.{clients_in}
use Rattle.ring_session.proofs.Clients.{AreRead}
use Rattle.ring_session.proofs.snapshots.read_clients.Given as goal

abbrev pub invariant-loop-i : goal.invariant-loop-i
invariant-loop-i g l = AreRead (clients_in l.count l.fn.bytes) l.count l._i l.low l.rest l.sessions.entries
