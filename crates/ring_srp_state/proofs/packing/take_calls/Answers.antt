use Rattle.std.proofs.Common.{◌≡◌, ◌+◌, ◌<◌, length, drop, subst, sym, ap, ◌∙◌, arith}
use Rattle.std.proofs.lemmas.List.{take_all}
use Rattle.ring_payload.specs.Packing.{longest_call_run}
use Rattle.ring_srp_state.proofs.QueueTaken.{queue-left, call-left, call-moved, left-drop}
use Rattle.ring_base.proofs.Results.{on-err}
use Rattle.ring_srp_state.proofs.packing.take_calls.Goals as goal

pub unreachable-requires : goal.unreachable-requires
unreachable-requires g c =
    let inside : c.loop.counter < length (longest_call_run c.args.queue.now.items) = subst (λ n. c.loop.counter < n) c.requires c.loop-test.true in
    queue-left c.args.queue.now.items c.loop.queue.items c.loop.counter inside c.loop.invariant.left
    (omega (arith, c.loop.queue.ok.0, c.in_default.ensures.cases.0))

pub unreachable-requires-in_default-into_call : goal.unreachable-requires-in_default-into_call
unreachable-requires-in_default-into_call g c =
    let inside : c.loop.counter < length (longest_call_run c.args.queue.now.items) = subst (λ n. c.loop.counter < n) c.requires c.loop-test.true in
    call-left c.args.queue.now.items c.loop.queue.items c.pop_front.new.self.items c.in-Some.payload c.loop.counter
    inside c.loop.invariant.left c.in-Some.ensures.items (sym c.into_call.ensures ∙ c.in_default-into_call.is)

pub loop-preserved : goal.loop-preserved
loop-preserved g c =
    let inside : c.loop.counter < length (longest_call_run c.args.queue.now.items) = subst (λ n. c.loop.counter < n) c.requires c.loop-test.true in
    let m = call-moved c.args.queue.now.items c.loop.queue.items c.pop_front.new.self.items c.loop.calls.items
    c.in-Some.payload c.in-Some-into_call.call c.loop.counter inside c.loop.invariant.taken c.loop.invariant.left
    c.in-Some.ensures.items (sym c.into_call.ensures ∙ c.in-Some-into_call.is) in
    rw c.in_ok-push.ensures.items (record { taken = m.0; left = m.1 })

pub returns-in_err-push-clause-rest : goal.returns-in_err-push-clause-rest
returns-in_err-push-clause-rest g c =
    let inside : c.loop.counter < length (longest_call_run c.args.queue.now.items) = subst (λ n. c.loop.counter < n) c.requires c.loop-test.true in
    let m = call-moved c.args.queue.now.items c.loop.queue.items c.pop_front.new.self.items c.loop.calls.items
    c.in-Some.payload c.in-Some-into_call.call c.loop.counter inside c.loop.invariant.taken c.loop.invariant.left
    c.in-Some.ensures.items (sym c.into_call.ensures ∙ c.in-Some-into_call.is) in
    on-err c.from_residual-in_err-push.result _ (left-drop c.args.queue.now.items c.pop_front.new.self.items (c.loop.counter + 1) m.1)

pub returns-clause-calls : goal.returns-clause-calls
returns-clause-calls g c =
    c.loop.invariant.taken ∙ take_all c.loop.counter (longest_call_run c.args.queue.now.items) (omega (arith, c.requires, c.loop-test.false))

pub returns-clause-queue : goal.returns-clause-queue
returns-clause-queue g c =
    let all : c.loop.counter ≡ c.args.count = omega (arith, c.loop-test.false, c.loop.auto) in
    c.loop.invariant.left ∙ ap (λ n. drop n c.args.queue.now.items) all
