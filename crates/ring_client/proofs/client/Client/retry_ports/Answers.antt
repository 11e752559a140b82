use Rattle.std.proofs.Common.{Err, refl, ap, ◌∙◌}
use Rattle.ring_client.specs.Calling.{ClientOf}
use Rattle.ring_client.proofs.InVain.{none_yet, one_more, unanswered}
use Rattle.ring_client.proofs.client.Client.retry_ports.Goals as goal

pub loop-init : goal.loop-init
loop-init g c = record { in_vain = none_yet g.P.Port.asked_of c.args.op c.args.self.now; same_number = refl }

pub loop-preserved : goal.loop-preserved
loop-preserved g c =
    let arm = c.in-Err-NoAnswer in
    let vain = unanswered g.P.Port.asked_of c.args.op c.loop.self c.try_ports.new.self c.try_ports.result (arm.is ∙ ap Err arm.field-0-is)
    c.try_ports.ensures.refused in record {
      in_vain = one_more g.P.Port.asked_of c.args.op c.loop.counter c.args.self.now c.loop.self c.try_ports.new.self c.loop.invariant.in_vain vain;
      same_number = ap (λ (self : ClientOf _). self.next) vain.1 ∙ c.loop.invariant.same_number;
    }
