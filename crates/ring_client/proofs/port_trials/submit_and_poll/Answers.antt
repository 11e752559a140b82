use Rattle.std.proofs.Common.{arith}
use Rattle.ring_client.specs.Asking.{asked_after_submit}
use Rattle.ring_client.proofs.InTurn.{answered-poll}
use Rattle.ring_client.proofs.port_trials.submit_and_poll.Goals as goal

pub returns-then-is_some-clause-answered : goal.returns-then-is_some-clause-answered
returns-then-is_some-clause-answered g c =
    answered-poll (asked_after_submit c.args.call.now) _ _ c.args.turns c.loop.counter c.poll-answer.result c.loop-test.true
    (omega (arith, c.ranges.turns.fits)) c.loop.invariant c.poll-answer.ensures.asked
