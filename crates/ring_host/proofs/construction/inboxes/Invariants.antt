use Rattle.std.proofs.Common.{◌≡◌, vec_len, All}
use Rattle.ring_host.specs.Items.{HasRoomFor}
use Rattle.ring_host.proofs.construction.inboxes.Given as goal

abbrev pub invariant-loop : goal.invariant-loop
invariant-loop g l = (vec_len l.inboxes ≡ l.counter) × All (HasRoomFor l.size) l.inboxes.items
