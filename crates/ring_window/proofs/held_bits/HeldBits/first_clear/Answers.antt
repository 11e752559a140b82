use Rattle.std.proofs.Common.{arith}
use Rattle.ring_window.proofs.WordBits.{first_here, whole_here}
use Rattle.ring_window.proofs.held_bits.HeldBits.first_clear.Goals as goal

pub returns-then-word : goal.returns-then-word
returns-then-word c = rw c.trailing_ones.ensures
    (first_here c.args.self.now.words c.args.from c.loop-offset.offset c.word_from_bit-word.result c.loop-offset.invariant.0
    c.loop-offset.invariant.1 c.word_from_bit-word.ensures (omega arith))

pub loop-offset-preserved : goal.loop-offset-preserved
loop-offset-preserved c = (
  omega arith,
  whole_here c.args.self.now.words c.args.from c.loop-offset.offset c.word_from_bit-word.result c.loop-offset.invariant.1
      c.word_from_bit-word.ensures (omega arith),
)
