use Rattle.std.proofs.Common.{◌≡◌, ◌+◌, ◌*◌, true}
use Rattle.ring_wire.specs.Entries.{held_test}
use Rattle.ring_wire.proofs.entries.CommitEntry.is_byte_valid.Given as goal

abbrev pub invariant-loop-bit : goal.invariant-loop-bit
invariant-loop-bit l = held_test l.self.front l.self.mark l.self.held (8 * l.byte + l.bit) ≡ true
