-- In every run of at most 16 nodes the order grows, and what each node committed is a prefix of it. If issued calls keep the
-- limits, it explains the history, and each node's snapshot and the places that it keeps follow it.
use Rattle.std.proofs.Common.{◌≡◌, ℕ, zero, suc, ◌-◌, ◌≤◌, List, [], ◌∷◌, ◌++◌, Option, None, ap, sym, subst, ◌∙◌, refl}
use Rattle.std.specs.Prelude.{map}
use Rattle.std.specs.List.{AllByRecursion as Each}
use Rattle.std.proofs.lemmas.Bool.{cond_both}
use Rattle.ring_base.specs.Prefixes.{IsListPrefix, prefix_self, prefix_trans}
use Rattle.ring_base.specs.Group.{Group, is_primary}
use Rattle.ring_base.specs.Numbers.{numbers_from}
use Rattle.ring_base.specs.Processors.{only}
use Rattle.ring_base.proofs.Each.{each-append}
use Rattle.ring_object.specs.Operations.{Sequential}
use Rattle.ring_payload.specs.declared.call.Call.{Call}
use Rattle.ring_log.specs.Epochs.{Epoch, history_opening_of, number_above_rings}
use Rattle.ring_log.specs.EpochHistories.{CompleteExchange, complete_exchange, committed_by, restored_by, committed_of, log_of, epochs_with_snapshots, fronts_below}
use Rattle.ring_session.specs.Deduplicated.{deduplicated}
use Rattle.ring_node_spec.specs.declared.event.Event.{Event}
use Rattle.ring_node_spec.specs.Histories.{IsLinearization}
use Rattle.ring_node_spec.specs.Orders.{longer_list, order_of, IsOrderStep}
use Rattle.ring_node_spec.specs.Worlds.{World, world_opening, is_node, world_after_event, run, order, committed_in, moment_of}
use Rattle.ring_node_spec.proofs.Linear.{linear-nothing}
use Rattle.ring_node_spec.proofs.Orders.{order_of-grows, order_of-fronts, linear-step}
use Rattle.ring_order_proof.specs.Linear.{IsEventCallWithinLimits, AreOnlyIssuedCalls, HasCommittedPlaces, FollowsOrder}
use Rattle.ring_order_proof.specs.RunEpochs.{epochs_in, whole_epochs_in}
use Rattle.ring_order_proof.proofs.CommittingSteps.{HasSoundEpochs}
use Rattle.ring_order_proof.proofs.DisciplinedWorlds.{opened_on}
use Rattle.ring_order_proof.proofs.FollowedByNodes.{follows, follows-order}
use Rattle.ring_order_proof.proofs.IssuedInWorlds.{WorldKnows, opening-knows, run-knows}
use Rattle.ring_order_proof.proofs.IssuedLimits.{HistoryKeeps, run-keeps}
use Rattle.ring_order_proof.proofs.KnownByNodes.{all-know}
use Rattle.ring_order_proof.proofs.OrderSteps.{AllKnow, order-step, one-list, committed-at, lists-grow}
use Rattle.ring_order_proof.proofs.ConsistentRuns.{run-more, orderly, orderly-after, lives_on}
use Rattle.ring_order_proof.proofs.SentPieces.{all_hand_own}
use Rattle.ring_order_proof.proofs.RestoredTables.{ComesBack}

module _ {O A : Type 0} (object : Sequential O) (group : Group) (few : group.count ≤ 16) where
  abbrev at : List (Event A) → World A
  at events = run object (world_opening group) events

  known : (events : List (Event A)) → WorldKnows group (at events)
  known events = run-knows object group (world_opening group) events (opening-knows group)

  known-after : (events : List (Event A)) (e : Event A) → WorldKnows group (world_after_event object (at events) e)
  known-after events e = run-knows object group (at events) (e ∷ []) (known events)

  pub steady : (events : List (Event A)) (i : ℕ) → HasSoundEpochs ((at events).nodes i)
  steady events i = record {
    orderly = ((opened_on object group events).nodes i).kept.orderly;
    frozen = (all_hand_own object group events i).frozen;
  }

  pub run-grows : (before later : List (Event A)) → IsListPrefix (order (at before)) (order (run object (at before) later))
  run-grows before [] = prefix_self (order (at before))
  run-grows before (e ∷ later) =
      let w = world_after_event object (at before) e in
      let o' = orderly-after object group few before e in
      let rest = subst (λ (x : World A). IsListPrefix (order x) (order (run object x later))) (run-more object (world_opening group) before e)
      (run-grows (before ++ e ∷ []) later) in
      prefix_trans (order (at before)) (order w) (order (run object w later))
      (order_of-grows (committed_in (at before)) (committed_in w)
      (lists-grow group (at before) w (orderly object group few before) o' (lives_on object group few before (e ∷ [])) (known before) (known-after before e))
      (one-list group w (known-after before e) o')) rest

  -- what a node committed, with repeats removed, is a prefix of the order
  pub node-front : (events : List (Event A)) (node : ℕ) → 1 ≤ node → node ≤ group.count
      → IsListPrefix (deduplicated (committed_of group (whole_epochs_in (at events) node))) (order (at events))
  node-front events node low high =
      let w = at events in
      let k = known events in
      order_of-fronts (committed_in w) (node - 1) (committed_of group (whole_epochs_in w node)) (one-list group w k (orderly object group few events))
      (committed-at group w k node low high)

  -- each ticket's call was issued, and so was each call that a node handed over
  pub only-issued : (events : List (Event A)) → AreOnlyIssuedCalls (at events)
  only-issued events =
      let k = known events in
      record { tickets = λ i. (k.knows i).tickets; handed = λ i s older there. (k.knows i).sent s older there }

  -- If issued calls keep the limits

  module _ (back : ComesBack object A) where
    keeps : (events : List (Event A)) → Each IsEventCallWithinLimits events → HistoryKeeps (at events)
    keeps events limits = run-keeps object (world_opening group) events limits tt

    pub know : (events : List (Event A)) → Each IsEventCallWithinLimits events → AllKnow object group (at events)
    know events limits =
        all-know object back group (at events) (known events) (orderly object group few events) (keeps events limits) (all_hand_own object group events)

    -- each event of a run is a step by the rules
    next-step : (before : List (Event A)) (e : Event A) → Each IsEventCallWithinLimits (before ++ e ∷ [])
        → Each IsEventCallWithinLimits before → IsOrderStep object (moment_of (at before)) (moment_of (world_after_event object (at before) e))
    next-step before e more limits =
        order-step object group (at before) e (known before) (orderly object group few before) (orderly-after object group few before e)
        (lives_on object group few before (e ∷ [])) (steady before) (know before limits)
        (subst (AllKnow object group) (run-more object (world_opening group) before e) (know (before ++ e ∷ []) more))

    abbrev Explains : World A → Type 0
    Explains w = IsLinearization object (order w) w.history

    run-linear : (before later : List (Event A)) → Each IsEventCallWithinLimits before → Each IsEventCallWithinLimits later → Explains (at before)
        → Explains (run object (at before) later)
    run-linear before [] limits more linear = linear
    run-linear before (e ∷ later) limits more linear =
        let w = world_after_event object (at before) e in
        let next = each-append IsEventCallWithinLimits before (e ∷ []) limits (more.0, tt) in
        let now : Explains w = linear-step object (moment_of (at before)) (moment_of w) (next-step before e next limits) linear in
        let same = run-more object (world_opening group) before e in
        subst (λ (x : World A). Explains (run object x later)) same (run-linear (before ++ e ∷ []) later next more.1 (subst Explains (sym same) now))

    -- each node follows what it committed, and the order
    pub node-follows : (events : List (Event A)) (node : ℕ) → Each IsEventCallWithinLimits events → 1 ≤ node → node ≤ group.count
        → HasCommittedPlaces object ((at events).nodes node) (committed_of group (whole_epochs_in (at events) node))
        × FollowsOrder object ((at events).nodes node) (committed_of group (whole_epochs_in (at events) node)) (order (at events))
    node-follows events node limits low high =
        let w = at events in
        let n = w.nodes node in
        let log = log_of group (whole_epochs_in w node) in
        let whole = committed_of group (whole_epochs_in w node) in
        let knows = know events limits node low high in
        (follows object n log whole knows, follows-order object n log whole knows (order w) (node-front events node low high))

-- At the opening nothing is committed

empty-order : {A : Type 0} (f : ℕ → List (Call A)) → ((i : ℕ) → f i ≡ []) → (first n : ℕ) → order_of (map f (numbers_from first n)) ≡ []
empty-order f none first zero = refl
empty-order {A} f none first (suc n) =
    let rest = empty-order f none (suc first) n in
    ap (λ (calls : List (Call A)). longer_list (deduplicated calls) (order_of (map f (numbers_from (suc first) n)))) (none first)
    ∙ ap (λ (calls : List (Call A)). longer_list [] calls) rest

pub opening-none : {A : Type 0} (group : Group) (i : ℕ) → committed_of group (whole_epochs_in {A = A} (world_opening group) i) ≡ []
opening-none {A} group i =
    let w : World A = world_opening group in
    let fronts = fronts_below group (epochs_in w) (number_above_rings (epochs_in w i)) in
    let none : complete_exchange group (only i) [] ≡ None = cond_both (is_primary group (only i)) None None (λ (o : Option (CompleteExchange A)). o ≡ None) (λ t. refl)
    (λ f. refl) in
    cond_both (is_node w i) (history_opening_of i) [] (λ (l : List (Epoch A)). committed_of group (epochs_with_snapshots fronts i l) ≡ [])
    (λ t. ap (λ (o : Option (CompleteExchange A)). committed_by [] (fronts i 0) (restored_by (fronts i 0) [] o) o) none) (λ f. refl)

pub opening-order : {A : Type 0} (group : Group) → order {A = A} (world_opening group) ≡ []
opening-order {A} group = empty-order (λ i. committed_of group (whole_epochs_in {A = A} (world_opening group) i)) (opening-none group) 1 group.count

pub opening-linear : {O A : Type 0} (object : Sequential O) (group : Group) → IsLinearization object (order {A = A} (world_opening group)) []
opening-linear {O} {A} object group = subst (λ (calls : List (Call A)). IsLinearization object calls []) (sym (opening-order group)) (linear-nothing object)

-- From there on

pub explains : {O A : Type 0} (object : Sequential O) (group : Group) → group.count ≤ 16 → ComesBack object A → (events : List (Event A))
    → Each IsEventCallWithinLimits events
    → IsLinearization object (order (run object (world_opening group) events)) (run object (world_opening group) events).history
explains object group few back events limits = run-linear object group few back [] events tt limits (opening-linear object group)
