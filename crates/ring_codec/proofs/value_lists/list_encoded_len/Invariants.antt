use Rattle.std.proofs.Common.{◌≡◌, ◌+◌, drop, length}
use Rattle.std.specs.List.{flat_map}
use Rattle.ring_codec.proofs.value_lists.list_encoded_len.Given as goal

abbrev pub invariant-loop-item : goal.invariant-loop-item
invariant-loop-item g l = l.size + length (flat_map g.T.Encode.encoding (drop l.item-index l.items)) ≡ length (flat_map g.T.Encode.encoding l.items)
