use Rattle.std.proofs.Common.{arith}
use Rattle.ring_payload.proofs.CallMade.{made_fits}
use Rattle.ring_book_tests.proofs.driven.DrivenBook.submit.Goals as goal

pub entered_submit-requires : goal.entered_submit-requires
entered_submit-requires g c =
    made_fits c.in_ok-call.call 7 c.args.number _ (omega arith) (omega (arith, c.ranges.number.fits))
    c.in_ok-call.ensures.0 c.in_ok-call.ensures.1 c.in_ok-call.ensures.2
