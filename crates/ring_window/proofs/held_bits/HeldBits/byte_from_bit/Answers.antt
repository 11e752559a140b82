use Rattle.ring_window.specs.Bits.{is_set}
use Rattle.ring_window.proofs.WordBits.{byte_by_tests}
use Rattle.ring_window.proofs.held_bits.HeldBits.byte_from_bit.Goals as goal

pub returns : goal.returns
returns c = byte_by_tests c.word_from_bit.result c.args.first (is_set c.args.self.now.words) c.word_from_bit.ensures
