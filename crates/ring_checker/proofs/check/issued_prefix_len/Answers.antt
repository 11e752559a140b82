-- One more place, or the end of the prefix.
use Rattle.std.proofs.Common.{length, refl, arith}
use Rattle.std.proofs.lemmas.Option.{slice_get_read}
use Rattle.ring_checker.proofs.IssuedFronts.{place-more, place-ended, place-whole}
use Rattle.ring_checker.proofs.check.issued_prefix_len.Goals as goal

pub loop-front-preserved : goal.loop-front-preserved
loop-front-preserved c =
    let places = c.args.places.now in
    let place = c.index-places-front.result in
    let at = slice_get_read places (length places) c.loop-front.front place refl c.loop-front-test.true c.index-places-front.is in
    record {
      within = omega (arith, c.loop-front-test.true);
      issued = place-more places c.args.k c.loop-front.front place at c.loop-front.invariant.issued
          (c.is_issued_before.ensures.0 c.if-is_issued_before.true);
    }

pub returns-else-is_issued_before : goal.returns-else-is_issued_before
returns-else-is_issued_before c =
    let places = c.args.places.now in
    let place = c.index-places-front.result in
    let at = slice_get_read places (length places) c.loop-front.front place refl c.loop-front-test.true c.index-places-front.is in
    place-ended places c.args.k c.loop-front.front place c.is_issued_before.result c.loop-front.invariant.within
    c.loop-front.invariant.issued at c.is_issued_before.ensures c.if-is_issued_before.false

pub returns-after-loop-front : goal.returns-after-loop-front
returns-after-loop-front c =
    place-whole c.args.places.now c.args.k c.loop-front.front c.loop-front.invariant.within c.loop-front-test.false c.loop-front.invariant.issued
