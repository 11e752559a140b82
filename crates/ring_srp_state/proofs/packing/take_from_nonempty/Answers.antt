use Rattle.std.proofs.Common.{◌≡◌, ◌-◌, [], ap, sym, ◌∙◌}
use Rattle.std.specs.Prelude.{option_to_list}
use Rattle.ring_payload.specs.Packing.{packed_payloads}
use Rattle.ring_srp_state.proofs.QueueTaken.{taken-begun, left-begun, taken-more, left-more, taken-none, left-all, taken-all}
use Rattle.ring_srp_state.proofs.QueueTaken.{left-end, left-whole, left-twice, left-behind}
use Rattle.ring_base.proofs.Results.{on-err}
use Rattle.ring_srp_state.proofs.packing.take_from_nonempty.Goals as goal

pub loop-init : goal.loop-init
loop-init g c =
    record {
      taken = taken-begun c.args.max_messages c.in_ok-payloads.payloads.items c.args.queue.now.items c.in_ok-payloads.ensures.items;
      rest = left-whole c.args.queue.now.items;
      left = left-begun c.args.max_messages c.args.queue.now.items;
    }

pub returns-in_default-clause-items : goal.returns-in_default-clause-items
returns-in_default-clause-items g c =
    let none : [] ≡ packed_payloads 1 c.loop.queue.items = ap option_to_list (sym c.in_default.is) ∙ c.in_ok-payload.ensures.message in
    taken-none (c.args.max_messages - c.loop.counter) c.loop.payloads.items c.loop.queue.items _ none c.loop.invariant.taken

pub returns-in_default-clause-queue : goal.returns-in_default-clause-queue
returns-in_default-clause-queue g c =
    let none : [] ≡ packed_payloads 1 c.loop.queue.items = ap option_to_list (sym c.in_default.is) ∙ c.in_ok-payload.ensures.message in
    left-all (c.args.max_messages - c.loop.counter) c.loop.queue.items c.take_next_payload.new.queue.items _ none c.in_ok-payload.ensures.queue c.loop.invariant.left

pub loop-preserved : goal.loop-preserved
loop-preserved g c =
    let first = ap option_to_list (sym c.in-Some.is) ∙ c.in_ok-payload.ensures.message in
    rw c.in_ok-push.ensures.items (record {
      taken = taken-more c.args.max_messages c.loop.counter c.loop.payloads.items c.loop.queue.items
          c.take_next_payload.new.queue.items _ c.in-Some.payload c.loop-test.true first c.in_ok-payload.ensures.queue
          c.loop.invariant.taken;
      rest = left-twice c.loop.invariant.rest (left-behind c.loop.queue.items _ c.in_ok-payload.ensures.queue);
      left = left-more c.args.max_messages c.loop.counter c.loop.queue.items c.take_next_payload.new.queue.items _ c.loop-test.true
          c.in_ok-payload.ensures.queue c.loop.invariant.left;
    })

pub returns-clause-items : goal.returns-clause-items
returns-clause-items g c = taken-all c.args.max_messages c.loop.counter c.loop.payloads.items c.loop.queue.items _ c.loop-test.false c.loop.invariant.taken

pub returns-clause-queue : goal.returns-clause-queue
returns-clause-queue g c = left-end c.args.max_messages c.loop.counter c.loop.queue.items _ c.loop-test.false c.loop.invariant.left

pub returns-in_err-payload-clause-rest : goal.returns-in_err-payload-clause-rest
returns-in_err-payload-clause-rest g c = on-err c.from_residual-in_err-payload.result _ (left-twice c.loop.invariant.rest c.in_err-payload.ensures.rest)

pub returns-in_err-push-clause-rest : goal.returns-in_err-push-clause-rest
returns-in_err-push-clause-rest g c =
    on-err c.from_residual-in_err-push.result _
    (left-twice c.loop.invariant.rest (left-behind c.loop.queue.items c.take_next_payload.new.queue.items c.in_ok-payload.ensures.queue))
