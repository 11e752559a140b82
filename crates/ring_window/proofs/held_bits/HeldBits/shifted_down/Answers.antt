use Rattle.std.proofs.Common.{arith}
use Rattle.ring_window.proofs.WordBits.{four_words}
use Rattle.ring_window.proofs.held_bits.HeldBits.shifted_down.Goals as goal

pub returns : goal.returns
returns c = four_words c.args.self.now.words c.args.first _ _ _ _ (omega arith) c.word_from_bit.ensures c.word_from_bit-2.ensures c.word_from_bit-3.ensures c.word_from_bit-4.ensures
