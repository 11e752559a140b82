-- In every run a node has at most 64 unanswered tickets: a submit is refused at 64, and the calls done only grow.
use Rattle.std.proofs.Common.{◌≡◌, ℕ, suc, ◌<◌, ◌≤◌, Bool, true, false, List, [], ◌∷◌, ◌++◌, length, Some}
use Rattle.std.proofs.Common.{None, is_none, refl, ap, arith}
use Rattle.std.specs.Prelude.{nat_le, if◌then◌else◌, ◌&&◌}
use Rattle.std.proofs.lemmas.Bool.{cond_both, leb-false}
use Rattle.ring_base.specs.Group.{Group}
use Rattle.ring_base.specs.Numbers.{max_number}
use Rattle.ring_base.specs.declared.fault.Fault.TheVariants.{PendingFull, Stopped as StoppedFault}
use Rattle.ring_object.specs.Operations.{Sequential}
use Rattle.ring_payload.specs.declared.call.Call.{Call}
use Rattle.ring_core_spec.specs.declared.input.Input.TheVariants.{Frame as FrameInput, Timeout as TimeInput}
use Rattle.ring_core_spec.specs.declared.out.Out.{Out}
use Rattle.ring_core_spec.specs.State.{StepResult}
use Rattle.ring_core_spec.specs.Stepping.{ring_step}
use Rattle.ring_session.specs.Tickets.{TicketCall, answering_place, unanswered_tickets}
use Rattle.ring_node_spec.specs.declared.input.Input.{Input as NodeInput}
use Rattle.ring_node_spec.specs.declared.input.Input.TheVariants.{Frame as NodeFrame, Noise as NodeNoise, Timeout as NodeTime, Stop as NodeStop}
use Rattle.ring_node_spec.specs.EpochHistories.{epochs_after}
use Rattle.ring_node_spec.specs.Nodes.{Node, node_known_log, node_pending, is_stopped, is_closed, is_restored}
use Rattle.ring_node_spec.specs.DueSends.{due_of_outputs}
use Rattle.ring_node_spec.specs.Stepping.{NodeStepResult, with_dropped, newly_committed, drops, table_since, did, settled, node_after_outputs, after_core, node_step}
use Rattle.ring_node_spec.specs.Stepping.{submit_fault, node_after_submit}
use Rattle.ring_node_spec.specs.declared.event.Event.{Event}
use Rattle.ring_node_spec.specs.Worlds.{world_opening, run}
use Rattle.ring_order_proof.proofs.KeptByNodes.{all_have}
use Rattle.ring_order_proof.proofs.AnswerCounts.{few_more}
use Rattle.ring_log.specs.KnownLog.{KnownLog, known_log_of, retained_log, is_known_log_sound}
use Rattle.ring_log.specs.Logs.{committed_calls}

-- Unanswered tickets

waiting_if : {A : Type 0} → (b : Bool) (t : TicketCall A) (xs ys : List (TicketCall A)) → length xs ≤ suc (length ys) →
    length (if b then t ∷ xs else xs) ≤ suc (length (if b then t ∷ ys else ys))
waiting_if true t xs ys l = omega (arith, l)
waiting_if false t xs ys l = l

-- one more ticket
waiting_push : {A : Type 0} → (done : List (Call A)) (ts : List (TicketCall A)) (t : TicketCall A) →
    length (unanswered_tickets done (ts ++ t ∷ [])) ≤ suc (length (unanswered_tickets done ts))
waiting_push {A} done [] t =
    cond_both (is_none (answering_place done t)) (t ∷ []) [] (λ (xs : List (TicketCall A)). length xs ≤ 1) (λ e. omega arith) (λ e. omega arith)
waiting_push done (u ∷ ts) t =
    waiting_if (is_none (answering_place done u)) u (unanswered_tickets done (ts ++ t ∷ [])) (unanswered_tickets done ts) (waiting_push done ts t)

-- A node

abbrev pub HasFew : {A : Type 0} → Node A → Type 0
HasFew n = length (node_pending n) ≤ 64

not_refused : {A : Type 0} → (n : Node A) → submit_fault n ≡ None → length (node_pending n) < 64
not_refused n e = by_state (is_stopped n.core.state) e
  where
    by_given : (b : Bool) → nat_le 64 (length (node_pending n)) ≡ b →
        (if b then Some PendingFull else if nat_le max_number (length n.tickets) then Some PendingFull else None) ≡ None → length (node_pending n) < 64
    by_given true t h = absurd (let x : ⊥ = cc in x)
    by_given false t h = leb-false 64 (length (node_pending n)) t

    by_state : (b : Bool) →
        (if b then Some StoppedFault
        else if nat_le 64 (length (node_pending n)) then Some PendingFull
        else if nat_le max_number (length n.tickets) then Some PendingFull
        else None) ≡ None → length (node_pending n) < 64
    by_state true h = absurd (let x : ⊥ = cc in x)
    by_state false h = by_given (nat_le 64 (length (node_pending n))) refl h

submitted_few : {A : Type 0} → (n : Node A) (c : Call A) → submit_fault n ≡ None → HasFew (node_after_submit n c)
submitted_few {A} n c e =
    let t : TicketCall A = record { call = c; since = length n.done } in
    let l = not_refused n e in
    let a = waiting_push n.done n.tickets t in
    omega (arith, l, a)

module _ {O A : Type 0} (object : Sequential O) where
  settled_few : (b : Bool) (n new : Node A) (outs : List (Out A)) (k : KnownLog A) → new.tickets ≡ n.tickets → HasFew n →
      HasFew (settled object b n new outs k).node
  settled_few false n new outs k same f = f
  settled_few true n new outs k same f =
      let more = newly_committed (node_known_log n) k in
      let s = did object n new outs k more in
      let less = few_more object (table_since object (node_known_log n) k) n.tickets n.done more in
      let few : HasFew s.node = omega (arith, less, f, ap (λ ts. length (unanswered_tickets (n.done ++ more) ts)) same) in
      cond_both (drops object (is_closed n.group new.epochs) k)
      (record s { node = with_dropped k.committed s.node; dropped = committed_calls (retained_log k) }) s
      (λ (x : NodeStepResult A). HasFew x.node) (λ t. few) (λ e. few)

  after_few : (n : Node A) (s : StepResult A) → HasFew n → HasFew (after_core object n s).node
  after_few n s f =
      let epochs = epochs_after n.epochs s.outs in
      settled_few (is_known_log_sound n.group epochs && is_restored object (known_log_of n.group epochs)) n
      (node_after_outputs n s.core epochs (due_of_outputs object n s.core n.epochs s.outs)) s.outs (known_log_of n.group epochs) refl f

  stepped_few : (n : Node A) (input : NodeInput A) → HasFew n → HasFew (node_step object n input).node
  stepped_few n (NodeFrame frame) f = after_few n (ring_step n.core (FrameInput frame)) f
  stepped_few n (NodeTime kind) f = after_few n (ring_step n.core (TimeInput kind)) f
  stepped_few n NodeNoise f = f
  stepped_few n NodeStop f = f

pub pending_few : {O A : Type 0} → (object : Sequential O) (group : Group) (events : List (Event A)) (i : ℕ) →
    HasFew ((run object (world_opening group) events).nodes i)
pending_few object =
    all_have object HasFew (record {
      opens = λ group me. omega arith;
      steps = λ n input on f. stepped_few object n input f;
      submits = λ n c e f. submitted_few n c e;
      stops = λ n f. f;
    })
