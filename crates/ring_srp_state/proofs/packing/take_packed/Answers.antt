-- An empty queue makes no messages.
use Rattle.std.proofs.Common.{◌≡◌, length, sym, ◌∙◌, arith}
use Rattle.std.proofs.lemmas.Bool.{eqb-true}
use Rattle.ring_srp_state.proofs.QueueTaken.{packed_payloads-empty, left-empty}
use Rattle.ring_srp_state.proofs.packing.take_packed.Goals as goal

pub returns-then-is_empty-clause-items : goal.returns-then-is_empty-clause-items
returns-then-is_empty-clause-items g c =
    let none : length c.args.queue.now.items ≡ 0 = omega (arith, eqb-true _ _ (sym c.if-is_empty.ensures), c.args.queue.now.ok.0) in
    c.new.ensures.items ∙ packed_payloads-empty c.args.max_messages c.args.queue.now.items none

pub returns-then-is_empty-clause-queue : goal.returns-then-is_empty-clause-queue
returns-then-is_empty-clause-queue g c =
    let none : length c.args.queue.now.items ≡ 0 = omega (arith, eqb-true _ _ (sym c.if-is_empty.ensures), c.args.queue.now.ok.0) in
    left-empty c.args.max_messages c.args.queue.now.items none
