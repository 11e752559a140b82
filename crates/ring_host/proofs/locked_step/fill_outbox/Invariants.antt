use Rattle.std.proofs.Common.{◌≡◌, []}
use Rattle.ring_seat.specs.Outboxes.{frames_in, bytes_put, IsWhole}
use Rattle.ring_host.specs.LockedSteps.{AreCopiesOf}
use Rattle.ring_host.proofs.locked_step.fill_outbox.Given as goal

abbrev pub invariant-loop-place : goal.invariant-loop-place
invariant-loop-place g l =
    (l.outbox.line ≡ l.number) × IsWhole l.outbox × (bytes_put l.outbox ≡ []) × AreCopiesOf l.frames (frames_in l.outbox)
