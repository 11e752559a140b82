-- A submit or a stop that was entered is the last step of a run.
use Rattle.std.proofs.Common.{◌≡◌, ℕ, ◌+◌, ◌≤◌, ◌++◌, List, [], ◌∷◌, length, sym, ap, subst, ◌∙◌, arith, length-append}
use Rattle.std.proofs.lemmas.List.{length-map}
use Rattle.ring_base.specs.Group.{Group}
use Rattle.ring_object.specs.Operations.{Sequential}
use Rattle.ring_payload.specs.declared.call.Call.{Call}
use Rattle.ring_session.specs.Tickets.{TicketCall, ticket_calls}
use Rattle.ring_node_spec.specs.Nodes.{Node}
use Rattle.ring_node_spec.specs.Stepping.{node_after_submit}
use Rattle.ring_node_spec.specs.declared.input.Input.TheVariants.{Stop}
use Rattle.ring_book_lines.specs.Machines.{node_machine}
use Rattle.ring_book_lines.specs.Runs.{IsLineOfStep}
use Rattle.ring_book_lines.specs.declared.frame_ref.FrameRef.{FrameRef}
use Rattle.ring_book_lines.specs.declared.input.LineInput.{LineInput}
use Rattle.ring_book.specs.Cells.{HasJournaled}
use Rattle.ring_book.specs.Lines.{IsRun, LineView, StepView, Submitted, Received, steps_of, calls_of}
use Rattle.ring_book.specs.BookViews.{CellView}
use Rattle.ring_host.proofs.JournaledSteps.{last_same}
use Rattle.ring_host.specs.LockedSteps.{IsEntered, IsEndOfRun}
use Rattle.ring_host.specs.Steps.{node_after_lines, with_step}
use Rattle.ring_host.specs.SubmitsAndStops.{IsSubmitted, IsStopped}

-- A submit adds one ticket.
one_ticket_more : {A : Type 0} (old new : Node A) (call : Call A) → new ≡ node_after_submit old call → length new.tickets ≡ length old.tickets + 1
one_ticket_more {A} old new call made =
    let added : TicketCall A = record { call = call; since = length old.done } in
    let grown : length new.tickets ≡ length (old.tickets ++ added ∷ []) = ap (λ (n : Node A). length n.tickets) made in
    omega (arith, grown, length-append old.tickets (added ∷ []))

-- The calls that a run issues at a node are as many as the tickets of its node.
as_many_calls : {A : Type 0} (tickets : List (TicketCall A)) (calls : List (Call A)) (count : ℕ) → length tickets ≡ count + 1
    → ticket_calls tickets ≡ calls → length calls ≡ count + 1
as_many_calls {A} tickets calls count counted same =
    sym (ap (λ (cs : List (Call A)). length cs) same) ∙ length-map tickets (λ (t : TicketCall A). t.call) ∙ counted

module _ {O A : Type 0} (object : Sequential O) (group : Group) where
  -- A call that was entered in a run's book is submitted.
  pub submitted_so : (old new : CellView (Node A) A) (lines lines' : List (LineView A)) (call : Call A) (node ticket : ℕ)
      → IsEntered (node_machine object group) old new lines lines' (Submitted call) → IsRun object group lines'
      → (1 ≤ new.me) × (new.me ≤ group.count) → (new.journal ≡ steps_of new.me lines' → new.node ≡ node_after_lines object group lines' new.me)
      → old.me ≡ node → ticket ≡ length old.node.tickets → IsSubmitted object group node call ticket
  submitted_so old new lines lines' call node ticket e run member law is_node counted =
      let who : new.me ≡ node = e.me ∙ is_node in
      let synced : new.journal ≡ steps_of new.me lines' = subst (λ (n : ℕ). new.journal ≡ steps_of n lines') (sym e.me) e.same in
      let left : new.node ≡ node_after_lines object group lines' new.me = law synced in
      let makes : IsLineOfStep (node_machine object group) old.node (Submitted call) e.step new.node =
      subst (λ (i : LineInput A). IsLineOfStep (node_machine object group) old.node i e.step new.node) e.step_input e.stepped.makes in
      let tickets : length (node_after_lines object group lines' new.me).tickets ≡ ticket + 1 =
      sym (ap (λ (n : Node A). length n.tickets) left) ∙ one_ticket_more old.node new.node call makes.1 ∙ ap (λ (n : ℕ). n + 1) (sym counted) in
      let calls : length (calls_of (steps_of new.me lines')) ≡ ticket + 1 =
      as_many_calls (node_after_lines object group lines' new.me).tickets (calls_of (steps_of new.me lines')) ticket tickets
      (run.calls new.me member.0 member.1) in
      record {
        lines = lines;
        step = e.step;
        is_run = subst (λ (ls : List (LineView A)). IsRun object group ls) e.line run;
        member = subst (λ (n : ℕ). (1 ≤ n) × (n ≤ group.count)) who member;
        step_node = e.step_node ∙ is_node;
        issue = e.step_input;
        calls =
            subst (λ (n : ℕ). length (calls_of (steps_of n (with_step lines e.step))) ≡ ticket + 1) who
            (subst (λ (ls : List (LineView A)). length (calls_of (steps_of new.me ls)) ≡ ticket + 1) e.line calls);
      }

  -- A stop that a cell journaled, and with which a run ends, is that of the cell's processor.
  pub stopped_so : (old mid new : CellView (Node A) A) (node : ℕ) (at : FrameRef) (sent : ℕ)
      → HasJournaled (node_machine object group) old mid (Received Stop at) → IsEndOfRun object group mid new sent → old.me ≡ node
      → IsStopped A object group node
  stopped_so old mid new node at sent j e is_node =
      let one : e.entered.step ≡ j.step = last_same (steps_of mid.me e.book.lines) old.journal e.entered.step j.step (sym e.entered.was ∙ j.journal) in
      let lines : e.book'.lines ≡ with_step e.book.lines j.step =
      subst (λ (s : StepView A). e.book'.lines ≡ with_step e.book.lines s) one e.entered.lines in
      let who : new.me ≡ node = ap (λ (c : CellView (Node A) A). c.me) e.entered.cell_is ∙ j.me ∙ is_node in
      record {
        lines = e.book.lines;
        step = j.step;
        is_run = subst (λ (ls : List (LineView A)). IsRun object group ls) lines e.is_run;
        member = subst (λ (n : ℕ). (1 ≤ n) × (n ≤ group.count)) who e.member;
        step_node = j.step_node ∙ is_node;
        at = at;
        stop = j.step_input;
      }
