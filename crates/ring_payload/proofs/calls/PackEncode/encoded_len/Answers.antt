use Rattle.std.proofs.Common.{arith}
use Rattle.ring_payload.specs.Packs.{length-pack}
use Rattle.ring_payload.proofs.calls.PackEncode.encoded_len.Goals as goal

pub list_encoded_len-requires-clause-small : goal.list_encoded_len-requires-clause-small
list_encoded_len-requires-clause-small g c = rw c.as_slice.ensures (let p = length-pack c.args.self.now c.requires in omega (arith, p))

pub overflow_add-result : goal.overflow_add-result
overflow_add-result g c =
    let p = length-pack c.args.self.now c.requires in
    let q = rw c.as_slice.ensures at c.list_encoded_len.ensures in
    omega (arith, p, q)

pub returns-clause-small : goal.returns-clause-small
returns-clause-small g c =
    let p = length-pack c.args.self.now c.requires in
    let q = rw c.as_slice.ensures at c.list_encoded_len.ensures in
    omega (arith, p, q)
