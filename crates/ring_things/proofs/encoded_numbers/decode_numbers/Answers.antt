use Rattle.std.proofs.Common.{◌∙◌}
use Rattle.ring_things.proofs.NumbersRead.{numbers_from_bytes-overwritten}
use Rattle.ring_things.proofs.encoded_numbers.decode_numbers.Goals as goal

pub returns-clause-ok : goal.returns-clause-ok
returns-clause-ok g c =
    let numbers = c.in_ok-numbers.numbers in
    let len = c.as_mut_slice.ensures.len in
    numbers_from_bytes-overwritten 8 c.args.count c.args.bytes.now c.read_u64_into.new.dst numbers.items numbers.len
    c.in_ok-numbers.ensures.len numbers.ok.0 (c.read_u64_into.auto.dst ∙ len) c.read_u64_into.ensures
