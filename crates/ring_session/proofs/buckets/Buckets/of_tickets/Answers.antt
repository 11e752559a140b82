-- The chains of no ticket, and of one more before the others.
use Rattle.std.proofs.Common.{◌-◌, ◌∙◌, length, arith, refl, ap, sym}
use Rattle.ring_session.specs.declared.pending_ticket.PendingTicket.{PendingTicket}
use Rattle.ring_session.specs.Buckets.{bucket_of}
use Rattle.ring_session.proofs.BucketPlaces.{chain-start, chain-step}
use Rattle.ring_session.proofs.buckets.Buckets.of_tickets.Goals as goal

pub loop-place-init : goal.loop-place-init
loop-place-init g c = chain-start c.args.pending.now _ (length c.args.pending.now) refl

pub loop-place-preserved : goal.loop-place-preserved
loop-place-preserved g c =
    let pending = c.args.pending.now in
    let put = c.push_front_of_bucket.ensures in
    let here = c.index-pending-place.is in
    chain-step pending c.loop-place.buckets.first c.loop-place.buckets.next c.push_front_of_bucket.new.self.first c.push_front_of_bucket.new.self.next c.loop-place.place
    (c.loop-place.place - 1) c.bucket_of.result c.index-pending-place.result (omega (arith, c.loop-place-test.true))
    (omega (arith, c.loop-place-test.true, c.loop-place.auto.place)) here
    (c.bucket_of.ensures.bucket ∙ ap (λ (p : PendingTicket g.row.A.Denot). bucket_of p.call) (sym here))
    c.loop-place.invariant put.first put.other_first put.next put.other_next c.bucket_of.ensures.within
