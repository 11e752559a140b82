-- The messages taken, and those still to be made of the rest, are all.
use Rattle.std.proofs.Common.{◌≡◌, ◌-◌, ◌++◌}
use Rattle.ring_payload.specs.Packing.{packed_payloads, unpacked_rest}
use Rattle.ring_srp_state.specs.Packing.{IsLeftOf}
use Rattle.ring_srp_state.proofs.packing.take_from_nonempty.Given as goal

abbrev pub invariant-loop : goal.invariant-loop
invariant-loop g l = record {
  taken : l.payloads.items ++ packed_payloads (l.max_messages - l.counter) l.queue.items ≡ packed_payloads l.max_messages l.fn.queue.items;
  rest : IsLeftOf l.queue.items l.fn.queue.items;
  left : unpacked_rest (l.max_messages - l.counter) l.queue.items ≡ unpacked_rest l.max_messages l.fn.queue.items;
}
