-- From position to position of the call's bucket.
use Rattle.std.proofs.Common.{arith, ap, sym, ◌∙◌}
use Rattle.ring_session.specs.declared.pending_ticket.PendingTicket.{PendingTicket}
use Rattle.ring_session.specs.SessionAnswer.{is_same}
use Rattle.ring_session.proofs.BucketPlaces.{found-first, found-next, gone-start, gone-step, gone-end}
use Rattle.ring_session.proofs.tickets.mark_committed.Goals as goal

pub loop-place-init : goal.loop-place-init
loop-place-init g c =
    let pending = c.args.pending.now in
    let call = c.args.call.now in
    let k = c.first_of-place.result in
    let here = found-first pending c.args.buckets.now.first c.args.buckets.now.next c.requires.chained call k c.first_of-place.ensures in
    record {
      within = here.most;
      gone = λ before are. gone-start pending c.args.committed_flags.now.committed_marks before call k are here.none;
      bucket = here.bucket;
    }

pub loop-place-smaller : goal.loop-place-smaller
loop-place-smaller g c =
    let pending = c.args.pending.now in
    let next = found-next pending c.args.buckets.now.first c.args.buckets.now.next c.requires.chained c.args.call.now c.loop-place.place
    c.next_of-place.result c.index-pending-place.result c.loop-place-test.true c.index-pending-place.is
    c.loop-place.invariant.bucket c.next_of-place.ensures in
    let on = next.least in
    omega (arith, on, c.loop-place-test.true)

pub loop-place-preserved : goal.loop-place-preserved
loop-place-preserved g c =
    let pending = c.args.pending.now in
    let call = c.args.call.now in
    let i = c.loop-place.place in
    let k = c.next_of-place.result in
    let p = c.index-pending-place.result in
    let next = found-next pending c.args.buckets.now.first c.args.buckets.now.next c.requires.chained call i k p c.loop-place-test.true
    c.index-pending-place.is c.loop-place.invariant.bucket c.next_of-place.ensures in
    let same = c.is_same_call_by_number.ensures ∙ ap (λ (x : PendingTicket g.row.A.Denot). is_same x.call call) (sym c.index-pending-place.is) in
    record {
      within = next.most;
      gone = λ before are.
          gone-step pending c.loop-place.committed_flags.committed_marks c.mark_if_same.new.self.committed_marks before call i k p c.is_same_call_by_number.result c.loop-place-test.true
          c.index-pending-place.is same c.mark_if_same.ensures.this c.mark_if_same.ensures.others
          (let on = next.least in omega (arith, on)) next.none (c.loop-place.invariant.gone before are);
      bucket = next.bucket;
    }

pub returns : goal.returns
returns g c = λ before are.
    gone-end c.args.pending.now c.loop-place.committed_flags.committed_marks before c.args.call.now c.loop-place.place c.loop-place-test.false
    (c.loop-place.invariant.gone before are)
