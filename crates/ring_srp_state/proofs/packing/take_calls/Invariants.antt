-- The calls taken are the first of the run, and the rest of the queue follows them.
use Rattle.std.proofs.Common.{◌≡◌, take, drop}
use Rattle.ring_payload.specs.Packing.{longest_call_run}
use Rattle.ring_srp_state.proofs.packing.take_calls.Given as goal

abbrev pub invariant-loop : goal.invariant-loop
invariant-loop g l = record {
  taken : l.calls.items ≡ take l.counter (longest_call_run l.fn.queue.items);
  left : l.queue.items ≡ drop l.counter l.fn.queue.items;
}
