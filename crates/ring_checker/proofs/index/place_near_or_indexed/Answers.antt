-- A call at a place of a numbered order is found there.
use Rattle.ring_payload.specs.SameCalls.{is_same-self}
use Rattle.ring_checker.proofs.Indexes.{place-found}
use Rattle.ring_checker.proofs.index.place_near_or_indexed.Goals as goal

pub returns-then-is_call_at : goal.returns-then-is_call_at
returns-then-is_call_at g c =
    place-found c.args.order.now c.args.index.now c.args.next c.args.call.now c.args.call.now c.requires
    (c.is_call_at.ensures c.if-is_call_at.true) (is_same-self c.args.call.now)
