use Rattle.std.proofs.Common.{◌≡◌, ◌-◌, ◌≤◌, true, [], ◌++◌, is_some, vec_len, vec_capacity}
use Rattle.std.specs.Option.{option_map}
use Rattle.ring_things.specs.Names.{names_of}
use Rattle.ring_things.proofs.names.decode_names.Given as goal

abbrev pub invariant-loop-i : goal.invariant-loop-i
invariant-loop-i g l = record {
  read : names_of l.count [] l.fn.bytes ≡ option_map (λ names. l.names.items ++ names) (names_of (l.count - l._i) l.last l.rest);
  more : is_some (names_of (l.count - l._i) l.last l.rest) ≡ true;
  len : vec_len l.names ≡ l._i;
  room : l.count ≤ vec_capacity l.names;
}
