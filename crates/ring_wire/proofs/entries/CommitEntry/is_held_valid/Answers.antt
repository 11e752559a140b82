use Rattle.std.proofs.Common.{◌+◌, ◌*◌, sym, ◌∙◌, arith}
use Rattle.ring_wire.specs.Entries.{held_test-zero, held_test-longer_list}
use Rattle.ring_wire.proofs.entries.CommitEntry.is_held_valid.Goals as goal

pub loop-byte-init : goal.loop-byte-init
loop-byte-init c = held_test-zero _ _ _

pub returns-then-not-is_byte_valid : goal.returns-then-not-is_byte_valid
returns-then-not-is_byte_valid c =
    sym (held_test-longer_list c.args.self.now.front c.args.self.now.mark c.args.self.now.held (8 * c.loop-byte.byte + 8)
    256 (omega (arith, c.loop-byte-test.true)) (sym c.is_byte_valid.ensures ∙ c.if-not-is_byte_valid.true))
