use Rattle.std.proofs.Common.{ℕ, true, ◌≡◌, ◌+◌, ◌*◌, sym, subst, ◌∙◌, arith}
use Rattle.ring_wire.specs.Entries.{held_test, held_test-more, held_test-wrong, held_test-skip}
use Rattle.ring_wire.proofs.entries.CommitEntry.is_byte_valid.Goals as goal

pub returns-then-self-byte-eq0 : goal.returns-then-self-byte-eq0
returns-then-self-byte-eq0 c = sym (held_test-skip c.args.self.now.front c.args.self.now.mark c.args.self.now.held
    c.args.byte c.if-self-byte-eq0.true c.requires.before)

pub returns-then-is_invalid_bit : goal.returns-then-is_invalid_bit
returns-then-is_invalid_bit c =
    sym (held_test-wrong c.args.self.now.front c.args.self.now.mark c.args.self.now.held
    (8 * c.args.byte + c.loop-bit.bit) (8 * c.args.byte + 8) (omega (arith, c.loop-bit-test.true))
    (sym c.is_invalid_bit.ensures ∙ c.if-is_invalid_bit.true))

pub loop-bit-preserved : goal.loop-bit-preserved
loop-bit-preserved c =
    let more = held_test-more c.args.self.now.front c.args.self.now.mark c.args.self.now.held
    (8 * c.args.byte + c.loop-bit.bit) c.loop-bit.invariant (sym c.is_invalid_bit.ensures ∙ c.if-is_invalid_bit.false) in
    let next : 8 * c.args.byte + c.loop-bit.bit + 1 ≡ 8 * c.args.byte + (c.loop-bit.bit + 1) = omega arith in
    subst (λ (k : ℕ). held_test c.args.self.now.front c.args.self.now.mark c.args.self.now.held k ≡ true) next more
