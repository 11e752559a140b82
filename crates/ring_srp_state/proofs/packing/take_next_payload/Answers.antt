use Rattle.std.proofs.Common.{◌<◌, ◌≤◌, length, subst, ◌∙◌, arith}
use Rattle.ring_payload.specs.Packing.{longest_call_run}
use Rattle.ring_srp_state.proofs.QueueTaken.{first-alone, first-packed_payloads, behind-packed_payloads}
use Rattle.ring_srp_state.proofs.packing.take_next_payload.Goals as goal

pub returns-then-count-lt2-clause-message : goal.returns-then-count-lt2-clause-message
returns-then-count-lt2-clause-message g c =
    let short : length (longest_call_run c.args.queue.now.items) < 2 = subst (λ n. n < 2) c.first_run_length-count.ensures c.if-count-lt2.true in
    (first-alone c.args.queue.now.items c.pop_front.new.self.items c.pop_front.result c.pop_front.ensures.items
    (λ l. c.pop_front.ensures.variant.1 (omega (arith, l, c.args.queue.now.ok.0))) short).0

pub returns-then-count-lt2-clause-queue : goal.returns-then-count-lt2-clause-queue
returns-then-count-lt2-clause-queue g c =
    let short : length (longest_call_run c.args.queue.now.items) < 2 = subst (λ n. n < 2) c.first_run_length-count.ensures c.if-count-lt2.true in
    (first-alone c.args.queue.now.items c.pop_front.new.self.items c.pop_front.result c.pop_front.ensures.items
    (λ l. c.pop_front.ensures.variant.1 (omega (arith, l, c.args.queue.now.ok.0))) short).1

pub returns-clause-message : goal.returns-clause-message
returns-clause-message g c =
    let long : 2 ≤ length (longest_call_run c.args.queue.now.items) = subst (λ n. 2 ≤ n) c.first_run_length-count.ensures c.if-count-lt2.false in
    first-packed_payloads c.args.queue.now.items c.from_vec.result (c.from_vec.ensures ∙ c.in_ok-calls.ensures.calls) long

pub returns-clause-queue : goal.returns-clause-queue
returns-clause-queue g c =
    c.in_ok-calls.ensures.queue ∙ behind-packed_payloads c.args.queue.now.items c.first_run_length-count.result c.first_run_length-count.ensures c.if-count-lt2.false
