-- The pieces so far are added.
use Rattle.std.proofs.Common.{◌≡◌, ◌++◌}
use Rattle.std.specs.Prelude.{map}
use Rattle.ring_payload.specs.declared.content.Payload.TheVariants.{Snap}
use Rattle.ring_replication.proofs.due_sends.add_snaps.Given as goal

abbrev pub invariant-loop-snap : goal.invariant-loop-snap
invariant-loop-snap g l = l.due.items ≡ l.fn.due.items ++ map (λ snap. Snap snap) l.yielded
