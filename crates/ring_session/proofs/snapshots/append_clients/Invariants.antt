use Rattle.std.proofs.Common.{◌≡◌, ◌++◌, length, take, vec_len}
use Rattle.std.specs.List.{flat_map}
use Rattle.byteorder.specs.Endian.{big_bytes}
use Rattle.ring_session.specs.Snapshots.{client_encoding}
use Rattle.ring_session.proofs.snapshots.append_clients.Given as goal

abbrev pub invariant-loop-client : goal.invariant-loop-client
invariant-loop-client g l = record {
  whole : l.out.items ++ flat_map client_encoding l.client-iterator
      ≡ l.fn.out.items ++ (big_bytes 2 (length l.sessions.entries) ++ flat_map client_encoding l.sessions.entries);
  front : take (vec_len l.fn.out) l.out.items ≡ l.fn.out.items;
}
