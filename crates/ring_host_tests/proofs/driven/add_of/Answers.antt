use Rattle.std.proofs.Common.{arith}
use Rattle.ring_payload.proofs.CallMade.{made_fits}
use Rattle.ring_host_tests.proofs.driven.add_of.Goals as goal

pub returns : goal.returns
returns g c =
    made_fits c.in_ok-call.call c.args.client c.args.number _ (omega (arith, c.ranges.client.fits)) (omega (arith, c.ranges.number.fits))
    c.in_ok-call.ensures.0 c.in_ok-call.ensures.1 c.in_ok-call.ensures.2
