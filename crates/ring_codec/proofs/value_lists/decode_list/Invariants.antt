use Rattle.std.proofs.Common.{◌≡◌, ◌-◌}
use Rattle.ring_codec.specs.Reading.{repeated_at}
use Rattle.ring_codec.proofs.Loops.{with_front}
use Rattle.ring_codec.proofs.value_lists.decode_list.Given as goal

abbrev pub invariant-loop : goal.invariant-loop
invariant-loop g l = with_front l.items.items (repeated_at (l.count - l.counter) g.T.Encode.decoding_at_front l.from) ≡ repeated_at l.count g.T.Encode.decoding_at_front l.fn.from
