use Rattle.std.proofs.Common.{◌≡◌, ◌++◌, length, take}
use Rattle.byteorder.specs.Endian.{big_bytes}
use Rattle.ring_things.specs.Names.{list_encoding}
use Rattle.ring_things.proofs.names.append_names.Given as goal

abbrev pub invariant-loop-name : goal.invariant-loop-name
invariant-loop-name g l = l.out.items ≡ l.fn.out.items ++ (big_bytes 2 (length l.names) ++ list_encoding (take l.name-index l.names))
