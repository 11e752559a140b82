use Rattle.std.proofs.Common.{◌≡◌, ◌-◌, [], is_some}
use Rattle.ring_things.specs.Names.{names_of}
use Rattle.ring_things.proofs.names.are_encoded_names.Given as goal

abbrev pub invariant-loop-i : goal.invariant-loop-i
invariant-loop-i l = is_some (names_of l.count [] l.bytes) ≡ is_some (names_of (l.count - l._i) l.last l.rest)
