use Rattle.std.proofs.Common.{rules}
use Rattle.ring_client.specs.Asking.{just_submitted, asked_after_submit}
use Rattle.ring_client.proofs.InTurn.{asked_more, answered_at}
use Rattle.ring_client.proofs.port_trials.submit_in_order.Goals as goal

pub returns-in-Some : goal.returns-in-Some
returns-in-Some g c =
    let call = just_submitted c.args.request.now.client c.args.request.now.number c.args.request.now.op in (
      c.in-Some.ensures.told,
      answered_at g.P.Port.asked_of call c.args.turns c.args.ports.now c.loop-i.ports
          c.loop-i.i c.submit_and_poll.new.port (asked_after_submit c.in-Ok.call) c.in-Ok.ensures.ok c.in-Some.answer c.loop-i.invariant
          (search rules) c.in-Some.ensures.answered,
    )

pub loop-i-preserved : goal.loop-i-preserved
loop-i-preserved g c =
    let call = just_submitted c.args.request.now.client c.args.request.now.number c.args.request.now.op in
    asked_more g.P.Port.asked_of call c.args.turns c.args.ports.now c.loop-i.ports c.loop-i.i c.submit_and_poll.new.port
    (asked_after_submit c.in-Ok.call) c.in-Ok.ensures.ok c.loop-i.invariant (search rules) c.in_default-submit_and_poll.ensures.in_vain
