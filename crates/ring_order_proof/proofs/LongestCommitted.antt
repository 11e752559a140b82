-- The longest of the nodes' committed logs, as their steps gave it: each node's committed places are a prefix of it, and it is
-- some node's.
use Rattle.std.proofs.Common.{◌≡◌, ℕ, zero, suc, ◌+◌, ◌-◌, ◌≤◌, ◌<◌, ◌==◌, max, Bool, true, false, List, [], ◌∷◌, ◌++◌, length, drop}
use Rattle.std.proofs.Common.{Option, Some, None, ◌⊎◌, inl, inr, refl, ap, sym, ◌∙◌, subst, arith, append-nil, append_assoc}
use Rattle.std.specs.Prelude.{take, map, nat_lt, ◌&&◌, slice_get}
use Rattle.std.proofs.Math.Seq.{drop-append_seam}
use Rattle.std.proofs.lemmas.Bool.{cond_both, cond-true, cond-false, cases_Bool, and_parts, and_from, leb-true, le-leb, eqb-true, eq-eqb, ltb-true, ltb-false}
use Rattle.std.proofs.lemmas.List.{take-append-drop, length-take}
use Rattle.ring_base.specs.Prefixes.{IsListPrefix, prefix_self, prefix_trans, prefix_shorter, prefix_length, prefix_whole}
use Rattle.ring_base.specs.Group.{Group, is_primary}
use Rattle.ring_base.specs.Numbers.{numbers_from}
use Rattle.ring_base.specs.Processors.{only, has}
use Rattle.ring_base.specs.declared.fault.Fault.{Fault}
use Rattle.ring_base.specs.declared.ring_id.RingId.{RingId}
use Rattle.ring_base.proofs.ListFronts.{drop-more, take-whole}
use Rattle.ring_base.proofs.ListPlaces.{get-numbers}
use Rattle.ring_object.specs.Operations.{Sequential}
use Rattle.ring_payload.specs.declared.call.Call.{Call}
use Rattle.ring_payload.specs.declared.content.Payload.{Payload}
use Rattle.ring_wire.specs.declared.frame.Frame.{Frame}
use Rattle.ring_core_spec.specs.State.{Core, Transmission, StepResult, frame_at}
use Rattle.ring_core_spec.specs.Stepping.{ring_step}
use Rattle.ring_core_spec.specs.declared.input.Input.TheVariants.{Frame as CoreFrame, Timeout as CoreTimeout}
use Rattle.ring_core_spec.specs.declared.out.Out.{Out}
use Rattle.ring_log.specs.Epochs.{Epoch, history_opening_of, epochs_with_sends, epochs_with_trim, number_above_rings}
use Rattle.ring_log.specs.EpochHistories.{CompleteExchange, complete_exchange, log_of, committed_of, epochs_with_snapshots, fronts_below}
use Rattle.ring_log.specs.KnownLog.{KnownLog, known_log_after_epoch, known_log_opening, known_log_of, retained_log, is_known_log_sound}
use Rattle.ring_log.specs.Logs.{committed_calls}
use Rattle.ring_log.proofs.CommittedOf.{epochs_with_sends-kept, epochs_with_trim-from}
use Rattle.ring_log_proof.specs.RingFacts.{HasEpoch, EpochIn}
use Rattle.ring_log_proof.specs.EpochEvents.{IsEpochsExtended}
use Rattle.ring_log_proof.specs.Views.{IsView}
use Rattle.ring_log_proof.proofs.FilledEpochs.{kept-filled, filled-there}
use Rattle.ring_log_proof.proofs.Prefixes.{fill}
use Rattle.ring_log_proof.proofs.Moment.{view-at, committed-front, committed-grows, one-log}
use Rattle.ring_node_spec.proofs.Linear.{all-at}
use Rattle.ring_log.proofs.LongerLists.{longer_list-either}
use Rattle.ring_node_spec.proofs.Orders.{order_of-fronts}
use Rattle.ring_node_spec.specs.EpochHistories.{epochs_after}
use Rattle.ring_node_spec.specs.Orders.{order_of}
use Rattle.ring_session.specs.Deduplicated.{deduplicated}
use Rattle.ring_session.specs.DeduplicatedLaws.{deduplicated-front}
use Rattle.ring_node_spec.specs.Nodes.{Node, node_stopped, node_known_log, is_closed, is_restored}
use Rattle.ring_node_spec.specs.Stepping.{NodeStepResult, node_after_outputs, newly_committed, drops, step_after_trim, did, settled, after_core, node_step, submit_fault, node_after_submit}
use Rattle.ring_node_spec.specs.Stepping.{due_by_submit, with_dropped}
use Rattle.ring_node_spec.specs.DueSends.{due_of_outputs}
use Rattle.ring_node_spec.specs.declared.input.Input.{Input}
use Rattle.ring_node_spec.specs.declared.input.Input.TheVariants.{Frame as FrameInput, Noise as NoiseInput, Timeout as TimeInput, Stop as StopInput}
use Rattle.ring_node_spec.specs.declared.event.Event.{Event}
use Rattle.ring_node_spec.specs.declared.event.Event.TheVariants.{Issue, Deliver, Noise, Timeout, Stop}
use Rattle.ring_node_spec.specs.Worlds.{World, world_opening, with_node, is_node, calls_past, after_step, world_after_submit, world_after_submit_if_member, world_after_stop_if_member, world_after_input_if_member, world_after_receipt_if_sent}
use Rattle.ring_node_spec.specs.Worlds.{world_after_delivery, world_after_event, run, epochs_in, whole_epochs_in, committed_in, order}
use Rattle.ring_order_proof.proofs.DisciplinedWorlds.{AllKept, opened_on, run_group}
use Rattle.ring_order_proof.proofs.ConsistentRuns.{IsOrderlyWorld, run-more, orderly, lives_on}
use Rattle.ring_order_proof.proofs.RestoredPlaces.{Restored, gone, dropped-most, most-through, restored-epochs_with_sends, restored-epochs_with_trim, restored-owned}
use Rattle.ring_order_proof.proofs.DisciplinedDueSends.{kept_low}

-- ---- lists

-- a list, and a longer one that is a prefix of the same list and ends with these calls
goes_on : {X : Type 0} (xs ys more : List X) → IsListPrefix xs ys → IsListPrefix ys (xs ++ more)
    → ys ++ drop (length more - (length (xs ++ more) - length ys)) more ≡ xs ++ more
goes_on {X} [] ys more p q =
    let le = prefix_length ys more q in
    let n : length more - (length more - length ys) ≡ length ys = omega (arith, le) in
    ap (λ (k : ℕ). ys ++ drop k more) n
    ∙ (ap (λ (zs : List X). ys ++ drop (length ys) zs) (sym q.1) ∙ (ap (λ (zs : List X). ys ++ zs) (drop-append_seam ys q.0) ∙ q.1))
goes_on (x ∷ xs) [] more p q = absurd (cc p.1)
goes_on {X} (x ∷ xs) (y ∷ ys) more p q =
    let same : x ≡ y = cc p.1 in
    let n : length more - (length ((x ∷ xs) ++ more) - length (y ∷ ys)) ≡ length more - (length (xs ++ more) - length ys) = omega arith in
    let rest = goes_on xs ys more (p.0, cc p.1) (q.0, cc q.1) in
    ap (λ (k : ℕ). y ∷ (ys ++ drop k more)) n ∙ (ap (λ (zs : List X). y ∷ zs) rest ∙ ap (λ (z : X). z ∷ (xs ++ more)) (sym same))

-- the elements of a prefix after the first ones
behind : {X : Type 0} (n : ℕ) (xs ys : List X) → IsListPrefix xs ys → take (length xs - n) (drop n ys) ≡ drop n xs
behind zero xs ys f = let same : length xs - 0 ≡ length xs = omega arith in rw same (take-whole xs ys f)
behind (suc n) [] ys f = let none : 0 - suc n ≡ 0 = omega arith in rw none refl
behind (suc n) (x ∷ xs) [] f = absurd (cc f.1)
behind (suc n) (x ∷ xs) (y ∷ ys) f =
    let less : length (x ∷ xs) - suc n ≡ length xs - n = omega arith in
    rw less (behind n xs ys (f.0, cc f.1))

-- the list is a node's
pub record IsOf {A : Type 0} (committed : ℕ → List (Call A)) (count : ℕ) (log : List (Call A)) : Type 0 where
  pub node : ℕ
  pub low : 1 ≤ node
  pub high : node ≤ count
  pub log_is : log ≡ committed node

-- each node's list is a prefix of this one, which is a node's
pub record IsLongest {A : Type 0} (committed : ℕ → List (Call A)) (count : ℕ) (longest : List (Call A)) : Type 0 where
  pub fronts : (i : ℕ) → 1 ≤ i → i ≤ count → IsListPrefix (committed i) longest
  pub some : (longest ≡ []) ⊎ IsOf committed count longest

-- a node's list is one no longer than the longest, followed by these calls; the others' are as before
pub record IsGrown {A : Type 0} (before after : ℕ → List (Call A)) (count node all : ℕ) (calls longest : List (Call A)) : Type 0 where
  pub low : 1 ≤ node
  pub high : node ≤ count
  pub start : List (Call A)
  pub own : after node ≡ start ++ calls
  pub within : length start ≤ length longest
  pub grows : IsListPrefix (before node) (after node)
  pub others : (i : ℕ) → 1 ≤ i → i ≤ count → (i == node) ≡ false → after i ≡ before i
  pub all_is : all ≡ length (after node)

module _ {A : Type 0} (before after : ℕ → List (Call A)) (count node all : ℕ) (calls longest : List (Call A))
    (grown : IsGrown before after count node all calls longest)
    (log : List (Call A)) (one : (i : ℕ) → 1 ≤ i → i ≤ count → IsListPrefix (after i) log) (is : IsLongest before count longest) where
  front-on : (i : ℕ) → 1 ≤ i → i ≤ count → IsListPrefix (before i) (after i)
  front-on i low high = elim (cases_Bool (i == node)) [
    | inl t ↦ let same : i ≡ node = eqb-true i node t in subst (λ (k : ℕ). IsListPrefix (before k) (after k)) (sym same) grown.grows
    | inr f ↦ subst (λ (zs : List (Call A)). IsListPrefix (before i) zs) (sym (grown.others i low high f)) (prefix_self (before i))
  ]

  old-front : IsListPrefix longest log
  old-front = elim is.some [
    | inl e ↦ subst (λ (zs : List (Call A)). IsListPrefix zs log) (sym e) (log, refl)
    | inr j ↦ subst (λ (zs : List (Call A)). IsListPrefix zs log) (sym j.log_is)
        (prefix_trans (before j.node) (after j.node) log (front-on j.node j.low j.high) (one j.node j.low j.high))
  ]

  -- another node's list is a prefix of any list of which the old one is a prefix
  other-fronts : (new : List (Call A)) → IsListPrefix longest new → IsListPrefix (after node) new → (i : ℕ) → 1 ≤ i → i ≤ count → IsListPrefix (after i) new
  other-fronts new front mine i low high = elim (cases_Bool (i == node)) [
    | inl t ↦ let same : i ≡ node = eqb-true i node t in subst (λ (k : ℕ). IsListPrefix (after k) new) (sym same) mine
    | inr f ↦ subst (λ (zs : List (Call A)). IsListPrefix zs new) (sym (grown.others i low high f))
        (prefix_trans (before i) longest new (is.fronts i low high) front)
  ]

  stays : length (after node) ≤ length longest → IsLongest after count longest
  stays le =
      let mine = prefix_shorter (after node) longest log (one node grown.low grown.high) old-front le in
      record {
        fronts = other-fronts longest (prefix_self longest) mine;
        some = elim is.some [
          | inl e ↦ inl e
          | inr j ↦ inr (record {
            node = j.node;
            low = j.low;
            high = j.high;
            log_is = prefix_whole longest (after j.node) (subst (λ (zs : List (Call A)). IsListPrefix zs (after j.node)) (sym j.log_is) (front-on j.node j.low j.high))
                (prefix_length (after j.node) longest (other-fronts longest (prefix_self longest) mine j.node j.low j.high));
          })
        ];
      }

  longer_is : length longest ≤ length (after node) → IsLongest after count (after node)
  longer_is le =
      let front = prefix_shorter longest (after node) log old-front (one node grown.low grown.high) le in
      record {
        fronts = other-fronts (after node) front (prefix_self (after node));
        some = inr (record { node = node; low = grown.low; high = grown.high; log_is = refl });
      }

  pub longest-next : IsLongest after count (longest ++ calls_past (length longest) all calls)
  longest-next = elim (cases_Bool (nat_lt (length longest) (length (after node)))) [
    | inl t ↦
        let lt = ltb-true (length longest) (length (after node)) t in
        let front = prefix_shorter longest (after node) log old-front (one node grown.low grown.high) (omega (arith, lt)) in
        let short : IsListPrefix (after node) (start ++ calls) = subst (λ (zs : List (Call A)). IsListPrefix (after node) zs) grown.own (prefix_self (after node)) in
        let begins : IsListPrefix start longest = prefix_shorter start longest (start ++ calls) (calls, refl)
        (prefix_trans longest (after node) (start ++ calls) front short) grown.within in
        let n : length calls - (all - length longest) ≡ length calls - (length (start ++ calls) - length longest) =
        omega (arith, grown.all_is, ap length grown.own) in
        let new : longest ++ calls_past (length longest) all calls ≡ after node =
        ap (λ (k : ℕ). longest ++ drop k calls) n
        ∙ goes_on start longest calls begins (prefix_trans longest (after node) (start ++ calls) front short) ∙ sym grown.own in
        subst (IsLongest after count) (sym new) (longer_is (omega (arith, lt)))
    | inr f ↦
        let le = ltb-false (length longest) (length (after node)) f in
        let n : length calls - (all - length longest) ≡ length calls = omega (arith, le, grown.all_is) in
        let none : longest ++ calls_past (length longest) all calls ≡ longest =
        ap (λ (k : ℕ). longest ++ drop k calls) n ∙ ap (λ (zs : List (Call A)). longest ++ zs) (nothing calls) ∙ append-nil longest in
        subst (IsLongest after count) (sym none) (stays le)
  ]
    where
      start : List (Call A)
      start = grown.start

      nothing : (xs : List (Call A)) → drop (length xs) xs ≡ []
      nothing [] = refl
      nothing (x ∷ xs) = nothing xs

-- if nothing changes
longest-same : {A : Type 0} (before after : ℕ → List (Call A)) (count : ℕ) (longest : List (Call A))
    → ((i : ℕ) → 1 ≤ i → i ≤ count → after i ≡ before i) → IsLongest before count longest → IsLongest after count longest
longest-same {A} before after count longest same is = record {
  fronts = λ i low high. subst (λ (zs : List (Call A)). IsListPrefix zs longest) (sym (same i low high)) (is.fronts i low high);
  some = elim is.some [
    | inl e ↦ inl e
    | inr j ↦ inr (record { node = j.node; low = j.low; high = j.high; log_is = j.log_is ∙ sym (same j.node j.low j.high) })
  ];
}

-- ---- the known log of a node

pub history_opening_of-known : (A : Type 0) (group : Group) (me : ℕ) → (known_log_of group (history_opening_of {A = A} me)).committed ≡ 0
history_opening_of-known A group me =
    let none : complete_exchange {A = A} group (only me) [] ≡ None = cond_both (is_primary group (only me)) None None (λ (o : Option (CompleteExchange A)). o ≡ None) (λ t. refl)
    (λ f. refl) in
    ap (λ (o : Option (CompleteExchange A)). (known_log_after_epoch (record { seq = 0; rep = me }) known_log_opening o o).committed) none

-- the known log after a step that newly commits these calls
pub record IsNew {A : Type 0} (n : Node A) (epochs : List (Epoch A)) (x : NodeStepResult A) : Type 0 where
  pub group_is : x.node.group ≡ n.group
  pub committed : x.committed ≡ newly_committed (node_known_log n) (known_log_of n.group epochs)
  pub calls : (node_known_log x.node).calls ≡ (known_log_of n.group epochs).calls
  pub from : (node_known_log x.node).from ≡ (known_log_of n.group epochs).from
  pub many : (node_known_log x.node).committed ≡ (known_log_of n.group epochs).committed
  pub restored : (places : ℕ) → Restored n.group epochs places → Restored n.group x.node.epochs places

-- nothing is committed, or new calls are
pub record IsQuiet {A : Type 0} (n : Node A) (x : NodeStepResult A) : Type 0 where
  pub none : x.committed ≡ []
  pub many : (node_known_log x.node).committed ≡ (node_known_log n).committed

epochs_with_trim-calls : {A : Type 0} (group : Group) (places : ℕ) (epochs : List (Epoch A)) → (known_log_of group (epochs_with_trim places epochs)).calls ≡ (known_log_of group epochs).calls
epochs_with_trim-calls group places [] = refl
epochs_with_trim-calls group places (s ∷ older) = refl

epochs_with_trim-many : {A : Type 0} (group : Group) (places : ℕ) (epochs : List (Epoch A)) → (known_log_of group (epochs_with_trim places epochs)).committed ≡ (known_log_of group epochs).committed
epochs_with_trim-many group places [] = refl
epochs_with_trim-many group places (s ∷ older) = refl

module _ {O A : Type 0} (object : Sequential O) (n : Node A) where
  -- a step that isn't stopped
  step-new : (core : Core A) (outs : List (Out A)) (epochs : List (Epoch A)) (due : List (Payload A)) (closed : Bool)
      → IsNew n epochs (step_after_trim object closed (known_log_of n.group epochs)
      (did object n (node_after_outputs n core epochs due) outs (known_log_of n.group epochs) (newly_committed (node_known_log n) (known_log_of n.group epochs))))
  step-new core outs epochs due closed =
      let k = known_log_of n.group epochs in
      let x = did object n (node_after_outputs n core epochs due) outs k (newly_committed (node_known_log n) k) in
      let handed-is : known_log_of n.group (epochs_with_sends due epochs) ≡ k = epochs_with_sends-kept n.group due epochs in
      cond_both (drops object closed k) (record x { node = with_dropped k.committed x.node; dropped = committed_calls (retained_log k) }) x (IsNew n epochs)
      (λ t. record {
        group_is = refl;
        committed = refl;
        calls = epochs_with_trim-calls n.group k.committed (epochs_with_sends due epochs) ∙ ap (λ (y : KnownLog A). y.calls) handed-is;
        from = epochs_with_trim-from n.group k.committed (epochs_with_sends due epochs) ∙ ap (λ (y : KnownLog A). y.from) handed-is;
        many = epochs_with_trim-many n.group k.committed (epochs_with_sends due epochs) ∙ ap (λ (y : KnownLog A). y.committed) handed-is;
        restored = λ places r. restored-epochs_with_trim n.group k.committed (epochs_with_sends due epochs) places (restored-epochs_with_sends n.group due epochs places r);
      })
      (λ f. record {
        group_is = refl;
        committed = refl;
        calls = ap (λ (y : KnownLog A). y.calls) handed-is;
        from = ap (λ (y : KnownLog A). y.from) handed-is;
        many = ap (λ (y : KnownLog A). y.committed) handed-is;
        restored = λ places r. restored-epochs_with_sends n.group due epochs places r;
      })

  abbrev Comes : NodeStepResult A → Type 0
  Comes x = IsQuiet n x ⊎ ((outs : List (Out A)) × IsNew n (epochs_after n.epochs outs) x)

  settled-comes : (b : Bool) (core : Core A) (outs : List (Out A)) (due : List (Payload A)) →
      let epochs = epochs_after n.epochs outs in
      Comes (settled object b n (node_after_outputs n core epochs due) outs (known_log_of n.group epochs))
  settled-comes false core outs due = inl (record { none = refl; many = refl })
  settled-comes true core outs due =
      let epochs = epochs_after n.epochs outs in
      inr (outs, step-new core outs epochs due (is_closed n.group (epochs_with_sends due epochs)))

  core-comes : (s : StepResult A) → Comes (after_core object n s)
  core-comes s =
      let epochs = epochs_after n.epochs s.outs in
      settled-comes (is_known_log_sound n.group epochs && is_restored object (known_log_of n.group epochs)) s.core s.outs (due_of_outputs object n s.core n.epochs s.outs)

  pub step-comes : (input : Input A) → Comes (node_step object n input)
  step-comes (FrameInput frame) = core-comes (ring_step n.core (CoreFrame frame))
  step-comes (TimeInput kind) = core-comes (ring_step n.core (CoreTimeout kind))
  step-comes NoiseInput = inl (record { none = refl; many = refl })
  step-comes StopInput = inl (record { none = refl; many = refl })

-- ---- worlds

-- the nodes' committed places in a world, with the places that snapshots stand for
abbrev pub committed_by : {A : Type 0} → Group → World A → ℕ → List (Call A)
committed_by group w i = committed_of group (whole_epochs_in w i)

-- A world of this group whose lives are consistent
pub record IsWorld {A : Type 0} (group : Group) (w : World A) : Type 0 where
  pub orderly : IsOrderlyWorld group w
  pub nodes : AllKept group w
  pub group_is : w.group ≡ group

module _ {A : Type 0} (group : Group) (w : World A) (is : IsWorld group w) where
  a-node : (i : ℕ) → 1 ≤ i → i ≤ group.count → is_node w i ≡ true
  a-node i low high = and_from _ _ (le-leb 1 i low) (le-leb i w.group.count (omega (arith, high, ap (λ (g : Group). g.count) is.group_is)))

  -- each node's known log is that of its life, whatever snapshots stand for
  kept-is : (i : ℕ) → 1 ≤ i → i ≤ group.count → known_log_of group (whole_epochs_in w i) ≡ node_known_log (w.nodes i)
  kept-is i low high =
      kept-filled (fronts_below w.group (epochs_in w) (number_above_rings (epochs_in w i))) i group (epochs_in w i)
      ∙ ap (known_log_of group) (cond-true (is_node w i) (w.nodes i).epochs [] (a-node i low high))
      ∙ ap (λ g. known_log_of g (w.nodes i).epochs) (sym (is.nodes i).group_is)

  view-is : (i : ℕ) → IsView group (whole_epochs_in w i)
  view-is = view-at group (whole_epochs_in w) is.orderly.members is.orderly.text is.orderly.facts is.orderly.discipline

  size-is : (i : ℕ) → 1 ≤ i → i ≤ group.count → length (committed_by group w i) ≡ (node_known_log (w.nodes i)).committed
  size-is i low high = sym (view-is i).committed ∙ ap (λ (k : KnownLog A). k.committed) (kept-is i low high)

  -- a processor with an epoch is a node
  in-group : (i : ℕ) (r : RingId) → EpochIn (whole_epochs_in w i) r → (1 ≤ i) × (i ≤ group.count)
  in-group i r at = elim (cases_Bool (is_node w i)) as (λ _. (1 ≤ i) × (i ≤ group.count)) [
    | inl t ↦
        let parts = and_parts _ _ t in
        let high = leb-true i w.group.count parts.1 in (
          leb-true 1 i parts.0,
          omega (arith, high, ap (λ (g : Group). g.count) is.group_is),
        )
    | inr f ↦
        let none : epochs_in w i ≡ [] = cond-false (is_node w i) (w.nodes i).epochs [] f in
        absurd (subst (λ (l : List (Epoch A)). HasEpoch (epochs_with_snapshots (fronts_below w.group (epochs_in w) (number_above_rings (epochs_in w i))) i l) at.epoch at.older) none at.there)
  ]

  -- what a node's life restored is in the filled life
  restored-filled : (i places : ℕ) → 1 ≤ i → i ≤ group.count → Restored (w.nodes i).group (w.nodes i).epochs places → Restored group (whole_epochs_in w i) places
  restored-filled i places low high r =
      let fronts = fronts_below w.group (epochs_in w) (number_above_rings (epochs_in w i)) in
      let here : epochs_in w i ≡ (w.nodes i).epochs = cond-true (is_node w i) (w.nodes i).epochs [] (a-node i low high) in
      let own : Restored group (epochs_in w i) places = subst (λ l. Restored group l places) (sym here)
      (subst (λ g. Restored g (w.nodes i).epochs places) (is.nodes i).group_is r) in
      record {
        epoch = fill fronts i own.epoch;
        older = epochs_with_snapshots fronts i own.older;
        there = filled-there fronts i (epochs_in w i) own.epoch own.older own.there;
        whole = own.whole;
        exch = own.exch;
        w = own.w;
        wants = own.wants;
        at = own.at;
        snap = own.snap;
        from = own.from;
        fewer = subst (λ (k : KnownLog A). k.committed < places) (sym (kept-filled fronts i group own.older)) own.fewer;
      }

  -- all are prefixes of one list
  one-list : (log : List (Call A)) × ((i : ℕ) → 1 ≤ i → i ≤ group.count → IsListPrefix (committed_by group w i) log)
  one-list =
      let all = one-log group (whole_epochs_in w) is.orderly.members is.orderly.text is.orderly.facts is.orderly.discipline (numbers_from 1 group.count) in (
        all.0,
        λ i low high.
            let at : 1 + (i - 1) ≡ i = omega (arith, low) in
            all-at (λ (l : List (Call A)). IsListPrefix l all.0) (map (committed_by group w) (numbers_from 1 group.count)) (i - 1) (committed_by group w i) all.1
            (get-numbers (committed_by group w) 1 group.count (i - 1) (omega (arith, low, high)) ∙ ap (λ j. Some (committed_by group w j)) at),
      )

module _ {A : Type 0} (group : Group) (w w' : World A) (is : IsWorld group w) (is' : IsWorld group w')
    (on : (i : ℕ) → IsEpochsExtended (whole_epochs_in w i) (whole_epochs_in w' i)) where
  grows-on : (i : ℕ) → IsListPrefix (committed_by group w i) (committed_by group w' i)
  grows-on =
      let o = is.orderly in
      let o' = is'.orderly in
      committed-grows group (record { node_epochs = whole_epochs_in w; members = o.members; text = o.text; facts = o.facts; discipline = o.discipline })
      (record { node_epochs = whole_epochs_in w'; members = o'.members; text = o'.text; facts = o'.facts; discipline = o'.discipline }) on

  -- the committed length is as before
  same-on : (i : ℕ) → 1 ≤ i → i ≤ group.count → (node_known_log (w'.nodes i)).committed ≡ (node_known_log (w.nodes i)).committed
      → committed_by group w' i ≡ committed_by group w i
  same-on i low high same =
      sym (prefix_whole (committed_by group w i) (committed_by group w' i) (grows-on i)
      (omega (arith, same, size-is group w is i low high, size-is group w' is' i low high)))

  module _ {O : Type 0} (object : Sequential O) (i : ℕ) (input : Input A) (low : 1 ≤ i) (high : i ≤ group.count)
      (steps : w' ≡ after_step w i (node_step object (w.nodes i) input)) (longest : IsLongest (committed_by group w) group.count w.longest) where
    abbrev n : Node A
    n = w.nodes i

    abbrev x : NodeStepResult A
    x = node_step object n input

    here : w'.nodes i ≡ x.node
    here = ap (λ (v : World A). v.nodes i) steps ∙ cond-true (i == i) x.node (w.nodes i) (eq-eqb i i refl)

    there : (j : ℕ) → (j == i) ≡ false → w'.nodes j ≡ w.nodes j
    there j other = ap (λ (v : World A). v.nodes j) steps ∙ cond-false (j == i) x.node (w.nodes j) other

    others-same : (j : ℕ) → 1 ≤ j → j ≤ group.count → (j == i) ≡ false → committed_by group w' j ≡ committed_by group w j
    others-same j l h other = same-on j l h (ap (λ (m : Node A). (node_known_log m).committed) (there j other))

    known-within : (j : ℕ) → 1 ≤ j → j ≤ group.count → (node_known_log (w.nodes j)).committed ≤ length w.longest
    known-within j l h =
        let le = prefix_length (committed_by group w j) w.longest (longest.fronts j l h) in
        omega (arith, le, size-is group w is j l h)

    empty_step-grown : IsQuiet n x → IsGrown (committed_by group w) (committed_by group w') group.count i (node_known_log x.node).committed x.committed w.longest
    empty_step-grown q = record {
      low = low;
      high = high;
      start = committed_by group w' i;
      own = sym (ap (λ l. committed_by group w' i ++ l) q.none ∙ append-nil (committed_by group w' i));
      within =
          let le = known-within i low high in
          omega (arith, le, size-is group w' is' i low high, ap (λ (m : Node A). (node_known_log m).committed) here, q.many);
      grows = grows-on i;
      others = others-same;
      all_is = sym (size-is group w' is' i low high ∙ ap (λ (m : Node A). (node_known_log m).committed) here);
    }

    module _ (outs : List (Out A)) (new : IsNew n (epochs_after n.epochs outs) x) where
      abbrev k : KnownLog A
      k = known_log_of n.group (epochs_after n.epochs outs)

      abbrev old : KnownLog A
      old = node_known_log n

      abbrev all : List (Call A)
      all = committed_by group w' i

      abbrev log : List (Call A)
      log = log_of group (whole_epochs_in w' i)

      known : known_log_of group (whole_epochs_in w' i) ≡ node_known_log x.node
      known = kept-is group w' is' i low high ∙ ap (λ (m : Node A). node_known_log m) here

      size : k.committed ≡ length all
      size = sym new.many ∙ sym (size-is group w' is' i low high ∙ ap (λ (m : Node A). (node_known_log m).committed) here)

      -- the committed places that it keeps are those after the dropped ones
      kept-calls : committed_calls (retained_log k) ≡ drop k.trimmed all
      kept-calls =
          let v = view-is group w' is' i in
          let from : (known_log_of group (whole_epochs_in w' i)).from ≡ k.from = ap (λ (y : KnownLog A). y.from) known ∙ new.from in
          let calls : k.calls ≡ drop k.from log = sym (ap (λ (y : KnownLog A). y.calls) known ∙ new.calls) ∙ v.calls ∙ ap (λ m. drop m log) from in
          let l = kept_low n.group (epochs_after n.epochs outs) in
          let sum : k.from + (k.trimmed - k.from) ≡ k.trimmed = omega (arith, l) in
          let front = committed-front group (whole_epochs_in w') is'.orderly.members is'.orderly.text is'.orderly.facts is'.orderly.discipline i in
          ap (λ y. take (k.committed - k.trimmed) (drop (k.trimmed - k.from) y)) calls
          ∙ ap (take (k.committed - k.trimmed)) (drop-more k.from (k.trimmed - k.from) log ∙ ap (λ m. drop m log) sum)
          ∙ ap (λ m. take (m - k.trimmed) (drop k.trimmed log)) size
          ∙ behind k.trimmed all log front

      -- new ones come after those committed or restored
      new-calls : x.committed ≡ drop (max old.committed k.trimmed) all
      new-calls =
          let sum : k.trimmed + (max old.committed k.trimmed - k.trimmed) ≡ max old.committed k.trimmed = omega arith in
          new.committed ∙ ap (drop (max old.committed k.trimmed - k.trimmed)) kept-calls
          ∙ drop-more k.trimmed (max old.committed k.trimmed - k.trimmed) all ∙ ap (λ m. drop m all) sum

      -- some node had committed all of that
      start-within : max old.committed k.trimmed ≤ length w.longest
      start-within =
          let mine = known-within i low high in
          elim (gone n.group old.committed (epochs_after n.epochs outs)
          (most-through old.committed n.epochs outs (dropped-most n.group n.epochs (is.nodes i).orderly.drops)))
          as (λ _. max old.committed k.trimmed ≤ length w.longest) [
            | inl le ↦ omega (arith, mine, le)
            | inr r ↦
                let own : Restored x.node.group x.node.epochs k.trimmed = subst (λ g. Restored g x.node.epochs k.trimmed) (sym new.group_is) (new.restored k.trimmed r) in
                let own' : Restored (w'.nodes i).group (w'.nodes i).epochs k.trimmed =
                subst (λ (m : Node A). Restored m.group m.epochs k.trimmed) (sym here) own in
                let o' = is'.orderly in
                let owned = restored-owned group (whole_epochs_in w') o'.members o'.text o'.facts o'.discipline i k.trimmed
                (restored-filled group w' is' i k.trimmed low high own') in
                let q = owned.owner in
                let bounds = in-group group w' is' q owned.at.0 owned.at.1 in
                let had : k.trimmed ≤ (node_known_log (w'.nodes q)).committed =
                let le = owned.committed in
                omega (arith, le, ap (λ (y : KnownLog A). y.committed) (kept-is group w' is' q bounds.0 bounds.1)) in
                let was : (node_known_log (w'.nodes q)).committed ≡ (node_known_log (w.nodes q)).committed =
                ap (λ (m : Node A). (node_known_log m).committed) (there q owned.other) in
                let theirs = known-within q bounds.0 bounds.1 in
                omega (arith, mine, had, was, theirs)
          ]

      new-grown : IsGrown (committed_by group w) (committed_by group w') group.count i (node_known_log x.node).committed x.committed w.longest
      new-grown = record {
        low = low;
        high = high;
        start = take (max old.committed k.trimmed) all;
        own = sym (ap (λ l. take (max old.committed k.trimmed) all ++ l) new-calls ∙ take-append-drop (max old.committed k.trimmed) all);
        within = let le = start-within in omega (arith, le, length-take (max old.committed k.trimmed) all);
        grows = grows-on i;
        others = others-same;
        all_is = sym (size-is group w' is' i low high ∙ ap (λ (m : Node A). (node_known_log m).committed) here);
      }

    pub step-longest : IsLongest (committed_by group w') group.count w'.longest
    step-longest =
        let grown : IsGrown (committed_by group w) (committed_by group w') group.count i (node_known_log x.node).committed x.committed w.longest =
        elim (step-comes object n input) [ inl q ↦ empty_step-grown q | inr c ↦ new-grown c.0 c.1 ] in
        let list = one-list group w' is' in
        subst (IsLongest (committed_by group w') group.count) (sym (ap (λ (v : World A). v.longest) steps))
        (longest-next (committed_by group w) (committed_by group w') group.count i (node_known_log x.node).committed x.committed w.longest grown list.0 list.1 longest)

-- ---- events

-- no node commits anything
pub record IsStill {A : Type 0} (group : Group) (w w' : World A) : Type 0 where
  pub longest : w'.longest ≡ w.longest
  pub same : (j : ℕ) → (node_known_log (w'.nodes j)).committed ≡ (node_known_log (w.nodes j)).committed

-- or one node steps
pub record IsStepped {O A : Type 0} (object : Sequential O) (group : Group) (w w' : World A) : Type 0 where
  pub node : ℕ
  pub input : Input A
  pub low : 1 ≤ node
  pub high : node ≤ group.count
  pub is : w' ≡ after_step w node (node_step object (w.nodes node) input)

module _ {O A : Type 0} (object : Sequential O) (group : Group) (w : World A) (group_is : w.group ≡ group) where
  abbrev Moves : World A → Type 0
  Moves w' = IsStill group w w' ⊎ IsStepped object group w w'

  still : Moves w
  still = inl (record { longest = refl; same = λ j. refl })

  put-still : (i : ℕ) (n : Node A) → (node_known_log n).committed ≡ (node_known_log (w.nodes i)).committed → (j : ℕ)
      → (node_known_log (with_node w.nodes i n j)).committed ≡ (node_known_log (w.nodes j)).committed
  put-still i n e j = cond_both (j == i) n (w.nodes j) (λ (m : Node A). (node_known_log m).committed ≡ (node_known_log (w.nodes j)).committed)
      (λ t. let same : j ≡ i = eqb-true j i t in e ∙ ap (λ q. (node_known_log (w.nodes q)).committed) (sym same)) (λ f. refl)

  step-moves : (b : Bool) (i : ℕ) (input : Input A) → is_node w i ≡ b → Moves (world_after_input_if_member object b w i input)
  step-moves false i input e = still
  step-moves true i input e =
      let parts = and_parts _ _ e in
      let high = leb-true i w.group.count parts.1 in
      inr (record {
        node = i;
        input = input;
        low = leb-true 1 i parts.0;
        high = omega (arith, high, ap (λ (g : Group). g.count) group_is);
        is = refl;
      })

  submit-moves : (o : Option Fault) (i : ℕ) (c : Call A) → Moves (world_after_submit o w i c)
  submit-moves (Some fault) i c = inl (record { longest = refl; same = λ j. refl })
  submit-moves None i c = inl (record {
    longest = refl;
    same = put-still i (node_after_submit (w.nodes i) c)
        (ap (λ (k : KnownLog A). k.committed) (epochs_with_sends-kept (w.nodes i).group (due_by_submit (w.nodes i) c) (w.nodes i).epochs));
  })

  issue-moves : (b : Bool) (i : ℕ) (c : Call A) → Moves (world_after_submit_if_member b w i c)
  issue-moves false i c = still
  issue-moves true i c = submit-moves (submit_fault (w.nodes i)) i c

  stop-moves : (b : Bool) (i : ℕ) → Moves (world_after_stop_if_member b w i)
  stop-moves false i = still
  stop-moves true i = inl (record { longest = refl; same = put-still i (node_stopped (w.nodes i)) refl })

  frame-moves : (b : Bool) (i : ℕ) (frame : Frame A) → Moves (world_after_receipt_if_sent object b w i frame)
  frame-moves false i frame = still
  frame-moves true i frame = step-moves (is_node w i) i (FrameInput frame) refl

  world_after_delivery-moves : (o : Option (Transmission A)) (i : ℕ) → Moves (world_after_delivery object w i o)
  world_after_delivery-moves None i = still
  world_after_delivery-moves (Some f) i = frame-moves (has f.to i) i f.frame

  event-moves : (e : Event A) → Moves (world_after_event object w e)
  event-moves (Issue i c) = issue-moves (is_node w i) i c
  event-moves (Deliver i n) = world_after_delivery-moves (frame_at w.frames n) i
  event-moves (Noise i bytes) = still
  event-moves (Timeout i kind) = step-moves (is_node w i) i (TimeInput kind) refl
  event-moves (Stop i) = stop-moves (is_node w i) i

-- ---- runs

module _ {O A : Type 0} (object : Sequential O) (group : Group) (few : group.count ≤ 16) where
  abbrev At : List (Event A) → World A
  At events = run object (world_opening group) events

  world-is : (events : List (Event A)) → IsWorld group (At events)
  world-is events = record {
    orderly = orderly object group few events;
    nodes = λ i. ((opened_on object group events).nodes i).kept;
    group_is = run_group object group events;
  }

  after-is : (events : List (Event A)) (e : Event A) → IsWorld group (world_after_event object (At events) e)
  after-is events e = subst (IsWorld group) (run-more object (world_opening group) events e) (world-is (events ++ e ∷ []))

  opening-longest : IsLongest (committed_by group (world_opening {A = A} group)) group.count []
  opening-longest =
      let is : IsWorld group (world_opening {A = A} group) = world-is [] in record {
        fronts = λ i low high.
            let size = size-is group (world_opening {A = A} group) is i low high in
            let none = history_opening_of-known A group i in
            ([], append-nil (committed_by group (world_opening {A = A} group) i) ∙ empty (committed_by group (world_opening {A = A} group) i) (omega (arith, size, none)));
        some = inl refl;
      }
    where
      empty : (xs : List (Call A)) → length xs ≡ 0 → xs ≡ []
      empty [] e = refl
      empty (x ∷ xs) e = absurd (omega (arith, e))

  next-longest : (events : List (Event A)) (e : Event A) → IsLongest (committed_by group (At events)) group.count (At events).longest
      → IsLongest (committed_by group (world_after_event object (At events) e)) group.count (world_after_event object (At events) e).longest
  next-longest events e is =
      let w = At events in
      let w' = world_after_event object w e in
      let known = world-is events in
      let known' = after-is events e in
      let on : (i : ℕ) → IsEpochsExtended (whole_epochs_in w i) (whole_epochs_in w' i) = lives_on object group few events (e ∷ []) in
      elim (event-moves object group w known.group_is e) as (λ _. IsLongest (committed_by group w') group.count w'.longest) [
        | inl s ↦ subst (IsLongest (committed_by group w') group.count) (sym s.longest)
            (longest-same (committed_by group w) (committed_by group w') group.count w.longest
            (λ i low high. same-on group w w' known known' on i low high (s.same i)) is)
        | inr s ↦ step-longest group w w' known known' on object s.node s.input s.low s.high s.is is
      ]

  more-longest : (before later : List (Event A)) → IsLongest (committed_by group (At before)) group.count (At before).longest
      → IsLongest (committed_by group (At (before ++ later))) group.count (At (before ++ later)).longest
  more-longest before [] is =
      subst (λ (es : List (Event A)). IsLongest (committed_by group (At es)) group.count (At es).longest) (sym (append-nil before)) is
  more-longest before (e ∷ later) is =
      let next = subst (λ (w : World A). IsLongest (committed_by group w) group.count w.longest) (sym (run-more object (world_opening group) before e))
      (next-longest before e is) in
      subst (λ (es : List (Event A)). IsLongest (committed_by group (At es)) group.count (At es).longest) (append_assoc before (e ∷ []) later)
      (more-longest (before ++ e ∷ []) later next)

  pub longest-is : (events : List (Event A)) → IsLongest (committed_by group (At events)) group.count (At events).longest
  longest-is events = more-longest [] events opening-longest

  -- the number of a node's committed places
  pub taken-longest : (events : List (Event A)) (i : ℕ) → 1 ≤ i → i ≤ group.count
      → committed_by group (At events) i ≡ take (node_known_log ((At events).nodes i)).committed (At events).longest
  taken-longest events i low high =
      let w = At events in
      sym (ap (λ n. take n w.longest) (sym (size-is group w (world-is events) i low high))
      ∙ take-whole (committed_by group w i) w.longest ((longest-is events).fronts i low high))

  -- the node has as many
  pub within-longest : (events : List (Event A)) (i : ℕ) → 1 ≤ i → i ≤ group.count
      → (node_known_log ((At events).nodes i)).committed ≤ length (At events).longest
  within-longest events i low high =
      let w = At events in
      let le = prefix_length (committed_by group w i) w.longest ((longest-is events).fronts i low high) in
      omega (arith, le, size-is group w (world-is events) i low high)

  -- ---- the order

  order-front : (log : List (Call A)) (f : ℕ → List (Call A)) (first n : ℕ) → ((i : ℕ) → first ≤ i → i < first + n → IsListPrefix (f i) log)
      → IsListPrefix (order_of (map f (numbers_from first n))) (deduplicated log)
  order-front log f first zero fronts = (deduplicated log, refl)
  order-front log f first (suc n) fronts =
      longer_list-either (λ (w : List (Call A)). IsListPrefix w (deduplicated log)) (deduplicated (f first)) (order_of (map f (numbers_from (suc first) n)))
      (deduplicated-front (f first) log (fronts first (omega arith) (omega arith)))
      (order-front log f (suc first) n (λ i low high. fronts i (omega (arith, low)) (omega (arith, high))))

  -- its calls that take effect are the order
  pub order-longest : (events : List (Event A)) → order (At events) ≡ deduplicated (At events).longest
  order-longest events =
      let w = At events in
      let is = longest-is events in
      let committed = committed_by group w in
      let all = map committed (numbers_from 1 group.count) in
      let known = world-is events in
      let lists : committed_in w ≡ all = ap (λ (g : Group). map (λ i. committed_of g (whole_epochs_in w i)) (numbers_from 1 g.count)) known.group_is in
      let list = one-log group (whole_epochs_in w) known.orderly.members known.orderly.text known.orderly.facts known.orderly.discipline (numbers_from 1 group.count) in
      let front = order-front w.longest committed 1 group.count (λ i low high. is.fronts i low (omega (arith, high))) in
      ap order_of lists ∙ prefix_whole (order_of all) (deduplicated w.longest) front (elim is.some [
        | inl e ↦ let none : length (deduplicated w.longest) ≡ 0 = ap (λ (zs : List (Call A)). length (deduplicated zs)) e in omega (arith, none)
        | inr j ↦
            let same : length (deduplicated w.longest) ≡ length (deduplicated (committed j.node)) = ap
            (λ (zs : List (Call A)). length (deduplicated zs)) j.log_is in
            let at : 1 + (j.node - 1) ≡ j.node = let low = j.low in omega (arith, low) in
            let stands : slice_get all (j.node - 1) ≡ Some (committed j.node) =
            get-numbers committed 1 group.count (j.node - 1) (let low = j.low in let high = j.high in omega (arith, low, high)) ∙ ap (λ i. Some (committed i)) at in
            omega (
              arith,
              same,
              prefix_length (deduplicated (committed j.node)) (order_of all) (order_of-fronts all (j.node - 1) (committed j.node) list stands),
            )
      ])
