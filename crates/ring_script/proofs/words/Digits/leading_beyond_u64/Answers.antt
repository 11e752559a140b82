use Rattle.std.proofs.Common.{◌≡◌, ◌<◌, true, length, get_or, arith, sym}
use Rattle.std.specs.Char.{is_ascii_digit}
use Rattle.ring_script.proofs.Digits.{digits_more, value_more}
use Rattle.ring_script.proofs.words.Digits.leading_beyond_u64.Goals as goal

pub loop-count-preserved : goal.loop-count-preserved
loop-count-preserved c =
    let digit : is_ascii_digit (get_or c.args.text.now c.loop-count.count 0) ≡ true = sym c.if-is_ascii_digit.ensures.value in
    let inside : c.loop-count.count < length c.args.text.now = omega arith in
    let more = value_more c.args.text.now c.loop-count.count inside digit in
    record {
      within = omega arith;
      digits = digits_more c.args.text.now c.loop-count.count inside c.loop-count.invariant.digits digit;
      great = omega (arith, more, c.loop-count.invariant.great);
    }
