use Rattle.std.proofs.Common.{◌≡◌, ◌+◌, ◌*◌, ◌≤◌, ◌++◌, take, vec_len, vec_capacity}
use Rattle.ring_things.specs.Numbers.{list_encoding}
use Rattle.ring_things.proofs.encoded_numbers.append_encoded_numbers.Given as goal

abbrev pub invariant-loop-number : goal.invariant-loop-number
invariant-loop-number g l = record {
  appended : l.out.items ≡ l.fn.out.items ++ list_encoding 8 (take l.number-index l.numbers);
  len : vec_len l.out ≡ vec_len l.fn.out + 8 * l.number-index;
  grown : vec_capacity l.fn.out ≤ vec_capacity l.out;
}
