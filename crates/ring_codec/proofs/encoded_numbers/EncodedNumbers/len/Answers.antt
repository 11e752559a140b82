use Rattle.ring_codec.proofs.NumbersInBytes.{count_words}
use Rattle.ring_codec.proofs.encoded_numbers.EncodedNumbers.len.Goals as goal

pub returns : goal.returns
returns c = count_words c.self.inside.count c.self.inside.bytes.now c.args.self.now c.self.view_is
