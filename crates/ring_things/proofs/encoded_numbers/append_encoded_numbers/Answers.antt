-- Each number is appended to the others.
use Rattle.std.proofs.Common.{arith, ap, length}
use Rattle.ring_things.proofs.Appended.{number_appended}
use Rattle.ring_things.proofs.encoded_numbers.append_encoded_numbers.Goals as goal

pub loop-number-preserved : goal.loop-number-preserved
loop-number-preserved g c =
    let grown = rw c.unwrap.ensures at c.extend_from_slice.ensures.items in
    let len = rw c.unwrap.ensures at c.extend_from_slice.ensures.len in
    record {
      appended = number_appended c.args.numbers.now c.loop-number.number-index c.args.out.now.items c.loop-number.out.items c.write_u64.new.buf _
          c.loop-number-test.true c.write_u64.ensures c.loop-number.invariant.appended grown;
      len = omega (arith, c.loop-number.invariant.len, len, ap length c.write_u64.ensures);
      grown = omega (arith, c.loop-number.invariant.grown, c.extend_from_slice.ensures.capacity);
    }
