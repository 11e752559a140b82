-- From position to position of the call's bucket.
use Rattle.std.proofs.Common.{◌≡◌, ◌++◌, ◌∷◌, [], arith, ap, sym, if◌then◌else◌}
use Rattle.std.proofs.lemmas.List.{append-nil}
use Rattle.ring_session.specs.declared.ticket_answer.TicketAnswer.{TicketAnswer}
use Rattle.ring_session.proofs.BucketPlaces.{found-first, found-next, gone-start, gone-step, gone-end, answers-start, answers-step}
use Rattle.ring_session.proofs.tickets.append_bucketed_answers.Goals as goal
use Rattle.ring_session.proofs.tickets.append_bucketed_answers.Goals.{then-mark_if_same+in_ok-answer_for_ticket+in_ok-push, else-mark_if_same}

pub loop-place-init : goal.loop-place-init
loop-place-init g c =
    let pending = c.args.pending.now in
    let call = c.args.call.now in
    let k = c.first_of-place.result in
    let here = found-first pending c.args.buckets.now.first c.args.buckets.now.next c.requires.chained call k c.first_of-place.ensures in
    record {
      within = here.most;
      gone = λ before are. gone-start pending c.args.committed_flags.now.committed_marks before call k are here.none;
      bucket = here.bucket;
      answers = λ before are. answers-start pending before call c.args.answer k c.args.answers.now.items here;
    }

pub loop-place-smaller : goal.loop-place-smaller
loop-place-smaller g c =
    let pending = c.args.pending.now in
    let next = found-next pending c.args.buckets.now.first c.args.buckets.now.next c.requires.chained c.args.call.now c.loop-place.place
    c.next_of-place.result c.index-pending-place.result c.loop-place-test.true c.index-pending-place.is
    c.loop-place.invariant.bucket c.next_of-place.ensures in
    let on = next.least in
    omega (arith, on, c.loop-place-test.true)

pub loop-place-preserved : goal.loop-place-preserved
loop-place-preserved g c =
    let pending = c.args.pending.now in
    let call = c.args.call.now in
    let i = c.loop-place.place in
    let k = c.next_of-place.result in
    let p = c.index-pending-place.result in
    let next = found-next pending c.args.buckets.now.first c.args.buckets.now.next c.requires.chained call i k p c.loop-place-test.true
    c.index-pending-place.is c.loop-place.invariant.bucket c.next_of-place.ensures in
    let one : TicketAnswer g.row.A.Denot = record { ticket = p.ticket; call = p.call; answer = c.args.answer } in
    let items = c.loop-place.answers.items in
    let given : c.if-mark_if_same.answers.items ≡ items ++ (if c.mark_if_same.result then one ∷ [] else []) =
    elim c.if-mark_if_same.branch [
      | then-mark_if_same+in_ok-answer_for_ticket+in_ok-push w ↦
          rw (w.answers-is, w.in_ok-push.ensures.items, w.if-mark_if_same.true) (ap (λ x. items ++ x ∷ []) w.in_ok-answer_for_ticket.ensures)
      | else-mark_if_same w ↦ rw (w.answers-is, w.if-mark_if_same.false) (sym (append-nil items))
    ] in
    record {
      within = next.most;
      gone = λ before are.
          gone-step pending c.loop-place.committed_flags.committed_marks c.mark_if_same.new.self.committed_marks before call i k p c.is_same_call_by_number.result c.loop-place-test.true
          c.index-pending-place.is c.is_same_call_by_number.ensures c.mark_if_same.ensures.this c.mark_if_same.ensures.others
          (let on = next.least in omega (arith, on)) next.none (c.loop-place.invariant.gone before are);
      bucket = next.bucket;
      answers = λ before are.
          answers-step pending before call c.args.answer c.loop-place.committed_flags.committed_marks i k p c.mark_if_same.result c.is_same_call_by_number.result _ items
          c.if-mark_if_same.answers.items c.loop-place-test.true c.index-pending-place.is c.is_same_call_by_number.ensures c.mark_if_same.ensures.first given next
          (c.loop-place.invariant.gone before are) (c.loop-place.invariant.answers before are);
    }

pub returns-clause-gone : goal.returns-clause-gone
returns-clause-gone g c = λ before are.
    gone-end c.args.pending.now c.loop-place.committed_flags.committed_marks before c.args.call.now c.loop-place.place c.loop-place-test.false
    (c.loop-place.invariant.gone before are)
