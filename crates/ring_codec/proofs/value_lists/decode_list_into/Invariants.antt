use Rattle.std.proofs.Common.{◌≡◌, ◌-◌, length}
use Rattle.ring_codec.specs.Reading.{repeated_at}
use Rattle.ring_codec.proofs.Loops.{with_front}
use Rattle.ring_codec.proofs.value_lists.decode_list_into.Given as goal

-- the values read and those still to read are all, and there is a place for each
abbrev pub invariant-loop : goal.invariant-loop
invariant-loop g l = record {
  whole : with_front l.decoded_list.items (repeated_at (l.count - l.counter) g.T.Encode.decoding_at_front l.from) ≡ repeated_at l.count g.T.Encode.decoding_at_front l.fn.from;
  so_far : length l.decoded_list.items ≡ l.counter;
}
