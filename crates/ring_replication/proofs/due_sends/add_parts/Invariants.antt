-- The Parts so far are added.
use Rattle.std.proofs.Common.{◌≡◌, ◌++◌}
use Rattle.std.specs.Prelude.{map}
use Rattle.ring_payload.specs.declared.content.Payload.TheVariants.{Part}
use Rattle.ring_replication.proofs.due_sends.add_parts.Given as goal

abbrev pub invariant-loop-part : goal.invariant-loop-part
invariant-loop-part g l = l.due.items ≡ l.fn.due.items ++ map (λ part. Part part) l.yielded
