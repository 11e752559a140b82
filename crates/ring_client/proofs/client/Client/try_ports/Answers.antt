-- The outcome at the ports determines the client with these ports.
use Rattle.std.proofs.Common.{◌≡◌, ℕ, List, None, drop, length, take_at, refl, sym, ap, inl, inr, ◌∙◌, arith}
use Rattle.std.proofs.lemmas.Result.{err_from_is_err_and}
use Rattle.ring_base.specs.declared.fault.Fault.{Fault}
use Rattle.ring_base.specs.declared.fault.Fault.TheVariants.{NotMember, PendingFull, OpTooLong, Conflict, Stale}
use Rattle.ring_base.specs.declared.fault.Fault.TheVariants.{NumberGap, SessionsFull, Stopped, BookFull, Stranger}
use Rattle.ring_base.specs.declared.fault.Fault.TheVariants.{Memory, BadFrame, BadScript, NoAnswer, BadSnapshot}
use Rattle.ring_session.specs.SessionAnswer.{refusal}
use Rattle.ring_client.specs.declared.last_request.Asked.{Asked}
use Rattle.ring_client.specs.Asking.{just_submitted, IsClientVisible}
use Rattle.ring_client.specs.Calling.{ClientOf, AskingRefused}
use Rattle.ring_client.specs.Outcomes.{HasAnswer}
use Rattle.ring_client.proofs.client.Client.try_ports.Goals as goal

-- a refusal in an answer is one of the sessions, and the call is refused with it
told_refusal : {P : Type 0} (asked : P → Asked) (old new : ClientOf P) (op : List ℕ) (fault : Fault) → IsClientVisible (refusal fault)
    → HasAnswer asked (just_submitted old.client old.next op) old.turns old.ports new.ports (refusal fault)
    → new ≡ record (old) { open_call = None; ports = new.ports } → AskingRefused asked old new op fault
told_refusal asked old new op Conflict told has closed = (has, closed)
told_refusal asked old new op Stale told has closed = (has, closed)
told_refusal asked old new op NumberGap told has closed = (has, closed)
told_refusal asked old new op SessionsFull told has closed = (has, closed)
told_refusal asked old new op NotMember told has closed = absurd (omega (arith, told))
told_refusal asked old new op PendingFull told has closed = absurd (omega (arith, told))
told_refusal asked old new op OpTooLong told has closed = absurd (omega (arith, told))
told_refusal asked old new op Stopped told has closed = absurd (omega (arith, told))
told_refusal asked old new op BookFull told has closed = absurd (omega (arith, told))
told_refusal asked old new op Stranger told has closed = absurd (omega (arith, told))
told_refusal asked old new op Memory told has closed = absurd (omega (arith, told))
told_refusal asked old new op BadFrame told has closed = absurd (omega (arith, told))
told_refusal asked old new op BadScript told has closed = absurd (omega (arith, told))
told_refusal asked old new op NoAnswer told has closed = absurd (omega (arith, told))
told_refusal asked old new op BadSnapshot told has closed = absurd (omega (arith, told))

pub returns-in_ok-reply-in-TicketAnswer-clause-replied : goal.returns-in_ok-reply-in-TicketAnswer-clause-replied
returns-in_ok-reply-in-TicketAnswer-clause-replied g c =
    let new = c.submit_in_order.new.ports in
    let old = c.self.inside.ports in
    let told = rw c.as_mut_slice.ensures.value at c.in-TicketAnswer.ensures in
    let back = take_at new (drop (length new) old.items) old.len (told.1.same_length ∙ sym old.ok.0) in
    rw (← c.self.view_is, back) (c.in-TicketAnswer.answer, c.in_ok-reply-in-TicketAnswer.ensures.ok, told.1, refl)

pub returns-in_err-reply-in-TicketAnswer-clause-refused : goal.returns-in_err-reply-in-TicketAnswer-clause-refused
returns-in_err-reply-in-TicketAnswer-clause-refused g c =
    let new = c.submit_in_order.new.ports in
    let old = c.self.inside.ports in
    let told = rw (c.as_mut_slice.ensures.value, c.in_err-reply-in-TicketAnswer.ensures.refused) at c.in-TicketAnswer.ensures in
    let back = take_at new (drop (length new) old.items) old.len (told.1.same_length ∙ sym old.ok.0) in
    let p = err_from_is_err_and c.from_residual.result c.from_residual.ensures.1 in
    rw (p.1, p.2, ← c.self.view_is, back) (told_refusal g.P.Port.asked_of _ _ c.args.op c.in_err-reply-in-TicketAnswer.field-0.0 told.0 told.1 refl)

pub returns-in-Unanswered-clause-refused : goal.returns-in-Unanswered-clause-refused
returns-in-Unanswered-clause-refused g c =
    let new = c.submit_in_order.new.ports in
    let old = c.self.inside.ports in
    let are = rw c.as_mut_slice.ensures.value at c.in-Unanswered.ensures in
    let back = take_at new (drop (length new) old.items) old.len (are.same_length ∙ sym old.ok.0) in
    rw (← c.self.view_is, back) (are, refl)

pub returns-in-NotSubmitted-clause-refused : goal.returns-in-NotSubmitted-clause-refused
returns-in-NotSubmitted-clause-refused g c =
    let new = c.submit_in_order.new.ports in
    let old = c.self.inside.ports in
    let are = rw c.as_mut_slice.ensures.value at c.in-NotSubmitted.ensures in
    let back = take_at new (drop (length new) old.items) old.len (ap length are.1 ∙ sym old.ok.0) in
    rw (← c.self.view_is, back, are.1) (inl (are.0, refl))

pub returns-in-NoMemoryAfterSubmit-clause-refused : goal.returns-in-NoMemoryAfterSubmit-clause-refused
returns-in-NoMemoryAfterSubmit-clause-refused g c =
    let new = c.submit_in_order.new.ports in
    let old = c.self.inside.ports in
    let are = rw c.as_mut_slice.ensures.value at c.in-NoMemoryAfterSubmit.ensures in
    let back = take_at new (drop (length new) old.items) old.len (are.3.same_length ∙ sym old.ok.0) in
    rw (← c.self.view_is, back) (inr (are, refl))
