use Rattle.std.proofs.Common.{◌≡◌, ◌++◌, ◌≤◌, ◌+◌, drop, length}
use Rattle.std.specs.List.{flat_map}
use Rattle.ring_codec.proofs.value_lists.encode_list.Given as goal

-- the values written and those left are all, and there is room for those left
abbrev pub invariant-loop-item : goal.invariant-loop-item
invariant-loop-item g l =
    let left = flat_map g.T.Encode.encoding (drop l.item-index l.items) in
    record {
      whole : l.out.items ++ left ≡ l.fn.out.items ++ flat_map g.T.Encode.encoding l.items;
      room : length left ≤ l.out.spare;
      used : l.fn.out.spare + length left ≤ l.out.spare + length (flat_map g.T.Encode.encoding l.items);
    }
