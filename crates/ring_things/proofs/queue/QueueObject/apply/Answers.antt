-- The queue is still a queue after every operation.
use Rattle.std.proofs.Common.{Some, sym, ap, ◌∙◌, arith}
use Rattle.ring_object.specs.Bytes.{AreBytes-fits}
use Rattle.ring_things.proofs.QueueSteps.{pushed, popped}
use Rattle.ring_things.proofs.queue.QueueObject.apply.Goals as goal

pub invariant_of-self : goal.invariant_of-self
invariant_of-self g c = rw c.in_err-push_back-in-Some-Push.ensures.items c.self.invariant

pub invariant_of-self-in-Some-Push : goal.invariant_of-self-in-Some-Push
invariant_of-self-in-Some-Push g c =
    rw c.in_ok-push_back-in-Some-Push.ensures.items (pushed c.self.inside.items.items c.args.op.now c.in-Some-Push.value
    (AreBytes-fits c.args.op.now c.type_inv.op) (sym c.decode_queue_operation.ensures ∙ c.in-Some-Push.is ∙ ap Some c.in-Some-Push.field-0-is)
    (λ full. c.if-len-eq-MAX_QUEUE_VALUES.false (omega (arith, full, c.len.ensures, c.self.inside.items.ok.0))) c.self.invariant)

pub invariant_of-self-in-Some-Pop : goal.invariant_of-self-in-Some-Pop
invariant_of-self-in-Some-Pop g c = popped _ _ _ c.pop_front.ensures.items c.self.invariant
