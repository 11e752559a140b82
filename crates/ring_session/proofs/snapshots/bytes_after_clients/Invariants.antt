use Rattle.std.proofs.Common.{◌≡◌, ◌-◌}
use Rattle.std.specs.Option.{option_map}
use Rattle.ring_session.specs.Snapshots.{clients_at}
use Rattle.ring_session.proofs.snapshots.bytes_after_clients.Given as goal

abbrev pub invariant-loop-i : goal.invariant-loop-i
invariant-loop-i l = option_map (λ x. x.1) (clients_at l.count 0 l.bytes) ≡ option_map (λ x. x.1) (clients_at (l.count - l._i) l.low l.rest)
