use Rattle.std.proofs.Common.{◌≡◌, ◌+◌, ◌-◌, ◌*◌, ◌^◌, ◌<◌, true, length, get_or, arith, sym, inl, inr}
use Rattle.std.specs.Char.{is_ascii_digit}
use Rattle.std.proofs.lemmas.Bool.{cases_lt}
use Rattle.ring_script.proofs.Digits.{digits_more, value_more}
use Rattle.ring_script.proofs.words.Digits.leading_digits.Goals as goal

pub leading_beyond_u64-requires-clause-digits : goal.leading_beyond_u64-requires-clause-digits
leading_beyond_u64-requires-clause-digits c =
    digits_more c.args.text.now c.loop-count.count (omega arith) c.loop-count.invariant.digits (sym c.if-is_ascii_digit.ensures.value)

pub leading_beyond_u64-requires-clause-great : goal.leading_beyond_u64-requires-clause-great
leading_beyond_u64-requires-clause-great c =
    let more = value_more c.args.text.now c.loop-count.count (omega arith) (sym c.if-is_ascii_digit.ensures.value) in
    elim (cases_lt (c.loop-count.value * 10 + (get_or c.args.text.now c.loop-count.count 0 - 48)) (2 ^ 64)) [
      | inl below ↦ absurd (c.in-None.ensures below)
      | inr past ↦ omega (arith, more, past, c.loop-count.invariant.value)
    ]

pub loop-count-preserved : goal.loop-count-preserved
loop-count-preserved c =
    let digit : is_ascii_digit (get_or c.args.text.now c.loop-count.count 0) ≡ true = sym c.if-is_ascii_digit.ensures.value in
    let inside : c.loop-count.count < length c.args.text.now = omega arith in
    let more = value_more c.args.text.now c.loop-count.count inside digit in
    record {
      within = omega arith;
      digits = digits_more c.args.text.now c.loop-count.count inside c.loop-count.invariant.digits digit;
      value = omega (arith, more, c.loop-count.invariant.value, c.in-Some.ensures);
      fits = omega (arith, c.in-Some.ensures);
    }
