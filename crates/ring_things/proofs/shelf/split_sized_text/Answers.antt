use Rattle.ring_things.proofs.ShelfTexts.{first_text-short, first_text-long, first_text-there}
use Rattle.ring_things.proofs.shelf.split_sized_text.Goals as goal

pub returns-then-bytes-lt8 : goal.returns-then-bytes-lt8
returns-then-bytes-lt8 c = first_text-short 8 c.args.bytes.now c.if-bytes-lt8.true

pub returns-then-len-rest : goal.returns-then-len-rest
returns-then-len-rest c = first_text-long 8 c.read_u64-len.result c.args.bytes.now c.read_u64-len.ensures c.if-len-rest.true

pub returns : goal.returns
returns c =
    first_text-there 8 c.read_u64-len.result c.args.bytes.now c.split_at.result.0.now c.split_at.result.1.now
    c.read_u64-len.ensures c.if-bytes-lt8.false c.if-len-rest.false
    c.split_at.ensures.front c.split_at.ensures.back
