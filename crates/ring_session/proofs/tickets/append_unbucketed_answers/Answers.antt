-- One more ticket: it gets the answer, or nothing is added.
use Rattle.std.proofs.Common.{◌≡◌, ◌+◌, ◌++◌, ◌∷◌, [], drop, ap, sym, ◌∙◌, append_assoc, append-nil}
use Rattle.ring_session.specs.TicketsState.{answer_for, answers_to}
use Rattle.ring_base.proofs.Rows.{drop-next}
use Rattle.ring_session.proofs.tickets.append_unbucketed_answers.Goals as goal
use Rattle.ring_session.proofs.tickets.append_unbucketed_answers.Goals.{then-is_same_call_by_number+then-not-contains_call+in_ok-answer_for_ticket+in_ok-push, else-is_same_call_by_number}
use Rattle.ring_session.proofs.tickets.append_unbucketed_answers.Goals.{else-is_same_call_by_number-via-then-is_same_call_by_number+else-not-contains_call, else-is_same_call_by_number-via-else-is_same_call_by_number}

pub loop-pending_ticket-preserved : goal.loop-pending_ticket-preserved
loop-pending_ticket-preserved g c =
    let pending = c.args.pending.now in
    let before = c.args.before.now in
    let call = c.args.call.now in
    let i = c.loop-pending_ticket.pending_ticket-index in
    let asked = c.pending_ticket-item.result in
    let items = c.loop-pending_ticket.answers.items in
    let rest = drop-next pending i asked c.loop-pending_ticket-test.true c.pending_ticket-item.is in
    let given : c.if-is_same_call_by_number.answers.items ≡ items ++ answer_for before call c.args.answer asked =
    elim c.if-is_same_call_by_number.branch [
      | then-is_same_call_by_number+then-not-contains_call+in_ok-answer_for_ticket+in_ok-push w ↦
          let same = sym c.is_same_call_by_number.ensures ∙ w.if-is_same_call_by_number.true in
          let new = sym w.contains_call.ensures ∙ w.if-not-contains_call.true in
          rw (w.answers-is, w.in_ok-push.ensures.items, same, new) (ap (λ x. items ++ x ∷ []) w.in_ok-answer_for_ticket.ensures)
      | else-is_same_call_by_number w ↦ elim w.else-is_same_call_by_number.branch [
        | else-is_same_call_by_number-via-then-is_same_call_by_number+else-not-contains_call v ↦
            let same = sym c.is_same_call_by_number.ensures ∙ v.if-is_same_call_by_number.true in
            let old = sym v.contains_call.ensures ∙ v.if-not-contains_call.false in
            rw (w.answers-is, same, old) (sym (append-nil items))
        | else-is_same_call_by_number-via-else-is_same_call_by_number v ↦
            let other = sym c.is_same_call_by_number.ensures ∙ v.if-is_same_call_by_number.false in
            rw (w.answers-is, other) (sym (append-nil items))
      ]
    ] in
    let left = answers_to before call c.args.answer (drop (i + 1) pending) in
    c.loop-pending_ticket.invariant
    ∙ ap (λ ps. items ++ answers_to before call c.args.answer ps) rest
    ∙ sym (append_assoc items (answer_for before call c.args.answer asked) left)
    ∙ ap (λ w. w ++ left) (sym given)
