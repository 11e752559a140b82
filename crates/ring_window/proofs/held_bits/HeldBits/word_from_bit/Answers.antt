use Rattle.std.proofs.Common.{◌%◌, refl, arith}
use Rattle.ring_window.proofs.WordBits.{word_across}
use Rattle.ring_window.proofs.held_bits.HeldBits.word_from_bit.Goals as goal

pub returns : goal.returns
returns c = λ j l. word_across c.args.self.now.words c.args.first c.word.result c.word-2.result (c.args.first % 64)
    j c.word.ensures c.word-2.ensures refl (omega arith) (omega arith) l
