-- In every run whose issued calls keep the limits, no node has committed places left that are due to be dropped after an event,
-- even if an exchange is open. So the test for an open exchange never decides whether a step drops places.
use Rattle.std.proofs.Common.{◌≡◌, ℕ, ◌-◌, ◌≤◌, ◌==◌, Bool, true, false, ◌&&◌, List, [], ◌∷◌, ◌++◌, length, take, Option, Some}
use Rattle.std.proofs.Common.{None, inl, inr}
use Rattle.std.proofs.Common.{refl, ap, sym, ◌∙◌, subst, arith}
use Rattle.std.specs.Prelude.{nat_le}
use Rattle.std.specs.List.{AllByRecursion as Each}
use Rattle.std.proofs.lemmas.Bool.{cond_both, and_parts, leb-true}
use Rattle.ring_base.specs.Prefixes.{IsListPrefix}
use Rattle.ring_base.specs.Group.{Group}
use Rattle.ring_base.specs.Processors.{IsProc, has}
use Rattle.ring_base.specs.declared.fault.Fault.{Fault}
use Rattle.ring_base.specs.declared.timeout_kind.Kind.{Kind}
use Rattle.ring_base.proofs.Each.{each-append}
use Rattle.ring_base.proofs.ListFronts.{take-front}
use Rattle.ring_object.specs.Operations.{Sequential}
use Rattle.ring_payload.specs.Limits.{max_snapshot}
use Rattle.ring_payload.specs.declared.call.Call.{Call}
use Rattle.ring_payload.specs.declared.content.Payload.{Payload}
use Rattle.ring_core_spec.specs.declared.input.Input.{Input}
use Rattle.ring_core_spec.specs.declared.input.Input.TheVariants.{Frame as CoreFrame, Timeout as CoreTimeout}
use Rattle.ring_core_spec.specs.State.{Transmission, frame_at}
use Rattle.ring_core_spec.specs.Stepping.{ring_step}
use Rattle.ring_core_proof.specs.CoreInvariants.{LocalFacts}
use Rattle.ring_core_proof.specs.Worlds.{World as RingWorld}
use Rattle.ring_core_proof.proofs.OwnEverywhere.{local_everywhere}
use Rattle.ring_core_proof.proofs.WithinWindow.{IsCoreInWindow, mark_below}
use Rattle.ring_synchrony_proof.proofs.Recovering.{all_recovered}
use Rattle.ring_log.specs.KnownLog.{KnownLog, known_log_of, retained_log, is_known_log_sound}
use Rattle.ring_log.specs.Logs.{committed_calls, trim_after, is_due_to_trim}
use Rattle.ring_log.specs.Epochs.{Epoch, epochs_with_sends}
use Rattle.ring_log.specs.EpochHistories.{log_of, committed_of}
use Rattle.ring_log.proofs.CommittedOf.{epochs_with_sends-kept}
use Rattle.ring_session.specs.Snapshots.{table_snapshot}
use Rattle.ring_session.specs.Table.{table_after}
use Rattle.ring_node_spec.specs.DueSends.{due_of_outputs}
use Rattle.ring_node_spec.specs.EpochHistories.{epochs_after}
use Rattle.ring_node_spec.specs.Nodes.{Node, node_stopped, node_known_log, is_closed, is_restored, snapshot_at}
use Rattle.ring_node_spec.specs.Stepping.{NodeStepResult, node_after_outputs, with_dropped, newly_committed, drops, did, settled}
use Rattle.ring_node_spec.specs.Stepping.{after_core, node_step, submit_fault, due_by_submit, node_after_submit}
use Rattle.ring_node_spec.specs.declared.event.Event.{Event}
use Rattle.ring_node_spec.specs.declared.event.Event.TheVariants.{Issue, Deliver, Noise, Timeout, Stop}
use Rattle.ring_node_spec.specs.declared.input.Input.TheVariants.{Frame as NodeFrame, Timeout as NodeTime}
use Rattle.ring_node_spec.specs.Worlds.{World, with_node, world_opening, is_node, world_after_submit, world_after_submit_if_member, world_after_stop_if_member, world_after_input_if_member}
use Rattle.ring_node_spec.specs.Worlds.{world_after_receipt_if_sent, world_after_delivery, world_after_event, run}
use Rattle.ring_order_proof.specs.MidStep.{MayCome, stepped_node, world_after_core_step}
use Rattle.ring_order_proof.specs.Linear.{IsEventCallWithinLimits}
use Rattle.ring_order_proof.specs.RunEpochs.{whole_epochs_in}
use Rattle.ring_order_proof.proofs.Between.{between_on}
use Rattle.ring_order_proof.proofs.BytesRestored.{knows-world_after_core_step, orderly-world_after_core_step}
use Rattle.ring_order_proof.proofs.ConsistentRuns.{run-more, orderly}
use Rattle.ring_order_proof.proofs.DisciplinedWorlds.{opened_on}
use Rattle.ring_order_proof.proofs.IssuedInWorlds.{WorldKnows, opening-knows, run-knows}
use Rattle.ring_order_proof.proofs.KnownWhole.{Knows, table-known}
use Rattle.ring_order_proof.proofs.OpenExchanges.{IsQuiet, step-quiet}
use Rattle.ring_order_proof.proofs.OrderSteps.{whole-grows}
use Rattle.ring_order_proof.proofs.OrderedRuns.{know}
use Rattle.ring_order_proof.proofs.PiecesDue.{IsFrozen}
use Rattle.ring_order_proof.proofs.ProjectedEvents.{ring_run}
use Rattle.ring_order_proof.proofs.RestoredTables.{ComesBack}
use Rattle.ring_order_proof.proofs.RunFacts.{node_is}
use Rattle.ring_order_proof.proofs.SentPieces.{all_hand_own}
use Rattle.ring_order_proof.proofs.TrimmedRuns.{epochs_with_sends-closed, epochs_with_trim-unripe}
use Rattle.ring_order_proof.proofs.TrimmedRuns.{history_opening_of-kept, drops-unripe}

-- Two known logs with as many committed and dropped places

module _ {O A : Type 0} (object : Sequential O) (k now : KnownLog A) (log whole log' whole' : List (Call A))
    (before : Knows object k log whole)
    (after : Knows object now log' whole') (grows : IsListPrefix whole whole') where
  drops-same : now.committed ≡ k.committed → now.trimmed ≡ k.trimmed → drops object true now ≡ drops object true k
  drops-same committed trimmed =
      let due : is_due_to_trim (retained_log now) ≡ is_due_to_trim (retained_log k) =
      ap (λ n. nat_le trim_after (n - now.trimmed)) committed ∙ ap (λ n. nat_le trim_after (k.committed - n)) trimmed in
      let first : take now.committed whole' ≡ take k.committed whole =
      ap (λ n. take n whole') committed ∙ take-front whole whole' k.committed grows
      (let c = before.committed in omega (arith, c)) in
      let old = table-known object k log whole before k.committed
      (let l = before.low in let h = before.high in omega (arith, l, h)) (omega arith) in
      let new = table-known object now log' whole' after now.committed
      (let l = after.low in let h = after.high in omega (arith, l, h)) (omega arith) in
      let bytes : snapshot_at object now now.committed ≡ snapshot_at object k k.committed =
      ap (table_snapshot object.snapshot_of) (new ∙ ap (table_after object) first ∙ sym old) in
      ap (λ b. b && nat_le (length (snapshot_at object now now.committed)) max_snapshot) due
      ∙ ap (λ l. is_due_to_trim (retained_log k) && nat_le (length l) max_snapshot) bytes

  drops-quiet : IsQuiet k now → drops object true k ≡ false → drops object true now ≡ false
  drops-quiet (inl q) none = drops-same q.0 q.1 ∙ none
  drops-quiet (inr q) none =
      let empty : now.committed - now.trimmed ≡ 0 = omega (arith, q) in
      drops-unripe object true now (ap (nat_le trim_after) empty)

module _ {O A : Type 0} (object : Sequential O) (back : ComesBack object A) (group : Group) (few : group.count ≤ 16) where
  abbrev at : List (Event A) → World A
  at events = run object (world_opening group) events

  -- nothing would be dropped, even if an exchange is open
  abbrev HasNoneDue : Node A → Type 0
  HasNoneDue n = drops object true (node_known_log n) ≡ false

  module _ (events : List (Event A)) (limits : Each IsEventCallWithinLimits events) where
    abbrev w : World A
    w = at events

    known : WorldKnows group w
    known = run-knows object group (world_opening group) events (opening-knows group)

    -- A step of one node

    module _ (i : ℕ) (low : 1 ≤ i) (high : i ≤ group.count) (none : HasNoneDue (w.nodes i)) where
      abbrev n : Node A
      n = w.nodes i

      in_group : n.group ≡ group
      in_group = known.groups i

      local : LocalFacts n.core
      local =
          let ring = ring_run object group events in
          subst (λ (x : RingWorld A). LocalFacts (x.cores i)) ring.part (local_everywhere group.count i ring.events)

      fit : IsCoreInWindow n.core
      fit =
          let ring = ring_run object group events in
          subst (λ (x : RingWorld A). IsCoreInWindow (x.cores i)) ring.part ((all_recovered group.count ring.events).local i).fit

      me : n.core.me ≡ i
      me =
          let ring = ring_run object group events in
          subst (λ (x : RingWorld A). (x.cores i).me ≡ i) ring.part
          (((((all_recovered group.count ring.events).all).all).rings).me i)

      quiet : (input : Input A) → is_closed group (epochs_after n.epochs (ring_step n.core input).outs) ≡ false →
          IsQuiet (known_log_of group n.epochs) (known_log_of group (epochs_after n.epochs (ring_step n.core input).outs))
      quiet input unclosed =
          let o = ((opened_on object group events).nodes i).kept.orderly in
          let frozen : IsFrozen group n.epochs = subst (λ g. IsFrozen g n.epochs) in_group
          (all_hand_own object group events i).frozen in
          let proc : IsProc n.core.me = subst (λ q. IsProc q) (sym me) (low, omega (arith, high, few)) in
          let covered = mark_below n.core n.core.installed.ring fit in
          let Quiet : List (Epoch A) → Type 0 = λ l. is_closed group (epochs_after l (ring_step n.core input).outs) ≡ false →
          IsQuiet (known_log_of group l) (known_log_of group (epochs_after l (ring_step n.core input).outs)) in
          subst Quiet (sym o.epochs)
          (step-quiet group o.epoch o.older n.core input proc local.rings local.facts covered o.stands.marked
          (subst (IsFrozen group) o.epochs frozen)) unclosed

      pub none-open : (input : Input A) → MayCome w i input → is_closed group (stepped_node n input).epochs ≡ false →
          drops object true (known_log_of group (stepped_node n input).epochs) ≡ false
      none-open input comes unclosed =
          let there = node_is object group events i low high in
          let first : known_log_of group n.epochs ≡ node_known_log n = ap (λ g. known_log_of g n.epochs) (sym in_group) in
          let knows = subst (λ (k : KnownLog A). Knows object k (log_of group (whole_epochs_in w i))
          (committed_of group (whole_epochs_in w i))) (sym first)
          (know object group few back events limits i low high) in
          let after = knows-world_after_core_step object group few events i input there comes back limits in
          let grows = whole-grows group w (world_after_core_step w i input) (orderly object group few events)
          (orderly-world_after_core_step object group few events i input there comes)
          (between_on object group events i input few there comes) i in
          drops-quiet object (known_log_of group n.epochs)
          (known_log_of group (stepped_node n input).epochs) _ _ _ _ knows after grows (quiet input unclosed)
          (ap (drops object true) first ∙ none)

      -- the end of the step drops what is due
      settled-none : (input : Input A) (b : Bool) (due : List (Payload A)) → MayCome w i input →
          let s = ring_step n.core input in
          let epochs = epochs_after n.epochs s.outs in
          HasNoneDue (settled object b n (node_after_outputs n s.core epochs due) s.outs (known_log_of n.group epochs)).node
      settled-none input false due comes = none
      settled-none input true due comes =
          let s = ring_step n.core input in
          let epochs = epochs_after n.epochs s.outs in
          let k = known_log_of n.group epochs in
          let new = node_after_outputs n s.core epochs due in
          let step = did object n new s.outs k (newly_committed (node_known_log n) k) in
          let kept : known_log_of n.group (epochs_with_sends due epochs) ≡ k = epochs_with_sends-kept n.group due epochs in
          cond_both (drops object (is_closed n.group new.epochs) k)
          (record step { node = with_dropped k.committed step.node; dropped = committed_calls (retained_log k) }) step
          (λ (x : NodeStepResult A). HasNoneDue x.node)
          (λ t. drops-unripe object true (node_known_log (with_dropped k.committed step.node))
          (epochs_with_trim-unripe n.group k.committed (epochs_with_sends due epochs)
          (ap (λ (x : KnownLog A). x.committed) (sym kept))))
          (λ f. ap (drops object true) kept ∙ by k (is_closed n.group new.epochs)
          (epochs_with_sends-closed n.group due epochs) refl f)
        where
          by : (k : KnownLog A) (b : Bool) → b ≡ is_closed n.group (epochs_after n.epochs (ring_step n.core input).outs) →
              k ≡ known_log_of n.group (epochs_after n.epochs (ring_step n.core input).outs) →
              drops object b k ≡ false → drops object true k ≡ false
          by k true e same f = f
          by k false e same f =
              let epochs = epochs_after n.epochs (ring_step n.core input).outs in
              ap (drops object true) (same ∙ ap (λ g. known_log_of g epochs) in_group)
              ∙ none-open input comes (ap (λ g. is_closed g epochs) (sym in_group) ∙ sym e)

      step-none : (input : Input A) → MayCome w i input → HasNoneDue (after_core object n (ring_step n.core input)).node
      step-none input comes =
          let s = ring_step n.core input in
          let epochs = epochs_after n.epochs s.outs in
          settled-none input (is_known_log_sound n.group epochs && is_restored object (known_log_of n.group epochs))
          (due_of_outputs object n s.core n.epochs s.outs) comes

      submit-none : (c : Call A) → HasNoneDue (node_after_submit n c)
      submit-none c = ap (drops object true) (epochs_with_sends-kept n.group (due_by_submit n c) n.epochs) ∙ none

    -- An event

    module _ (all : (i : ℕ) → 1 ≤ i → i ≤ group.count → HasNoneDue (w.nodes i)) where
      abbrev AllNone : World A → Type 0
      AllNone v = (i : ℕ) → 1 ≤ i → i ≤ group.count → HasNoneDue (v.nodes i)

      put-none : (i : ℕ) (m : Node A) → HasNoneDue m → (j : ℕ) → 1 ≤ j → j ≤ group.count → HasNoneDue (with_node w.nodes i m j)
      put-none i m none j low high = cond_both (j == i) m (w.nodes j) HasNoneDue (λ e. none) (λ e. all j low high)

      bounds : (i : ℕ) → is_node w i ≡ true → (1 ≤ i) × (i ≤ group.count)
      bounds i e =
          let b = and_parts (nat_le 1 i) (nat_le i w.group.count) e in
          let inside = leb-true i w.group.count b.1 in
          (leb-true 1 i b.0, omega (arith, inside, ap (λ (g : Group). g.count) known.here))

      frame-if : (b : Bool) (i : ℕ) (f : Transmission A) → is_node w i ≡ b → MayCome w i (CoreFrame f.frame) →
          AllNone (world_after_input_if_member object b w i (NodeFrame f.frame))
      frame-if false i f e comes = all
      frame-if true i f e comes =
          let b = bounds i e in
          put-none i (node_step object (w.nodes i) (NodeFrame f.frame)).node
          (step-none i b.0 b.1 (all i b.0 b.1) (CoreFrame f.frame) comes)

      time-if : (b : Bool) (i : ℕ) (kind : Kind) → is_node w i ≡ b → AllNone (world_after_input_if_member object b w i (NodeTime kind))
      time-if false i kind e = all
      time-if true i kind e =
          let b = bounds i e in
          put-none i (node_step object (w.nodes i) (NodeTime kind)).node
          (step-none i b.0 b.1 (all i b.0 b.1) (CoreTimeout kind) tt)

      issued-none : (o : Option Fault) (i : ℕ) (c : Call A) → is_node w i ≡ true → AllNone (world_after_submit o w i c)
      issued-none (Some fault) i c e = all
      issued-none None i c e =
          let b = bounds i e in
          put-none i (node_after_submit (w.nodes i) c) (submit-none i b.0 b.1 (all i b.0 b.1) c)

      issue-if : (b : Bool) (i : ℕ) (c : Call A) → is_node w i ≡ b → AllNone (world_after_submit_if_member b w i c)
      issue-if false i c e = all
      issue-if true i c e = issued-none (submit_fault (w.nodes i)) i c e

      stop-if : (b : Bool) (i : ℕ) → is_node w i ≡ b → AllNone (world_after_stop_if_member b w i)
      stop-if false i e = all
      stop-if true i e = (let b = bounds i e in put-none i (node_stopped (w.nodes i)) (all i b.0 b.1))

      hand-if : (b : Bool) (i k : ℕ) (f : Transmission A) → frame_at w.frames k ≡ Some f → has f.to i ≡ b →
          AllNone (world_after_receipt_if_sent object b w i f.frame)
      hand-if false i k f there e = all
      hand-if true i k f there e = frame-if (is_node w i) i f refl (k, f, there, e, refl)

      hand-none : (o : Option (Transmission A)) (i k : ℕ) → frame_at w.frames k ≡ o → AllNone (world_after_delivery object w i o)
      hand-none None i k e = all
      hand-none (Some f) i k e = hand-if (has f.to i) i k f e refl

      event-none : (e : Event A) → AllNone (world_after_event object w e)
      event-none (Issue i c) = issue-if (is_node w i) i c refl
      event-none (Deliver i k) = hand-none (frame_at w.frames k) i k refl
      event-none (Noise i bytes) = all
      event-none (Timeout i kind) = time-if (is_node w i) i kind refl
      event-none (Stop i) = stop-if (is_node w i) i refl

  -- Every run

  abbrev HaveNoneDue : World A → Type 0
  HaveNoneDue v = (i : ℕ) → 1 ≤ i → i ≤ group.count → HasNoneDue (v.nodes i)

  run-none : (before later : List (Event A)) → Each IsEventCallWithinLimits before → Each IsEventCallWithinLimits later → HaveNoneDue (at before) →
      HaveNoneDue (run object (at before) later)
  run-none before [] limits more all = all
  run-none before (e ∷ later) limits more all =
      let next = each-append IsEventCallWithinLimits before (e ∷ []) limits (more.0, tt) in
      let same = run-more object (world_opening group) before e in
      subst (λ (x : World A). HaveNoneDue (run object x later)) same
      (run-none (before ++ e ∷ []) later next more.1
      (subst (λ (x : World A). HaveNoneDue x) (sym same) (event-none before limits all e)))

  opening-none : HaveNoneDue (world_opening group)
  opening-none i low high =
      drops-unripe object true (node_known_log ((world_opening {A = A} group).nodes i))
      (ap (λ (k : KnownLog A). is_due_to_trim (retained_log k)) (history_opening_of-kept A group i))

  pub none-due : (events : List (Event A)) → Each IsEventCallWithinLimits events → HaveNoneDue (at events)
  none-due events limits = run-none [] events tt limits opening-none

  -- the test for an open exchange never decides
  pub closed-idle : (events : List (Event A)) → Each IsEventCallWithinLimits events → (i : ℕ) → 1 ≤ i → i ≤ group.count → (input : Input A) →
      MayCome (at events) i input →
      let epochs = (stepped_node ((at events).nodes i) input).epochs in
      drops object (is_closed group epochs) (known_log_of group epochs) ≡ drops object true (known_log_of group epochs)
  closed-idle events limits i low high input comes =
      by (is_closed group (stepped_node ((at events).nodes i) input).epochs) refl
    where
      by : (b : Bool) → is_closed group (stepped_node ((at events).nodes i) input).epochs ≡ b →
          drops object b (known_log_of group (stepped_node ((at events).nodes i) input).epochs)
          ≡ drops object true (known_log_of group (stepped_node ((at events).nodes i) input).epochs)
      by true e = refl
      by false e = sym (none-open events limits i low high (none-due events limits i low high) input comes e)
