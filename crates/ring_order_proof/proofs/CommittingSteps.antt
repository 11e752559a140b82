-- A step of a node commits calls of the one list: those after what it had committed, or after what it restored. The table before
-- them is the one after all earlier places of the list.
use Rattle.std.proofs.Common.{◌≡◌, ℕ, ◌≤◌, ◌<◌, ◌&&◌, Bool, true, false, List, [], ◌∷◌, ◌++◌, length}
use Rattle.std.proofs.Common.{take, drop, ◌⊎◌, inl, inr, refl, ap, sym, ◌∙◌, subst, arith}
use Rattle.std.proofs.lemmas.Bool.{cond_both}
use Rattle.ring_base.specs.Prefixes.{IsListPrefix}
use Rattle.ring_base.specs.Group.{Group}
use Rattle.ring_base.proofs.ListFronts.{take-whole, take-longer_list}
use Rattle.ring_object.specs.Operations.{Sequential}
use Rattle.ring_payload.specs.declared.call.Call.{Call}
use Rattle.ring_payload.specs.declared.content.Payload.{Payload}
use Rattle.ring_core_spec.specs.State.{Core}
use Rattle.ring_core_spec.specs.Stepping.{ring_step}
use Rattle.ring_core_spec.specs.declared.input.Input.{Input as CoreInput}
use Rattle.ring_core_spec.specs.declared.input.Input.TheVariants.{Frame as CoreFrame, Timeout as CoreTimeout}
use Rattle.ring_core_spec.specs.declared.out.Out.{Out}
use Rattle.ring_log.specs.KnownLog.{KnownLog, known_log_of, retained_log, is_known_log_sound}
use Rattle.ring_log.specs.Logs.{committed_calls}
use Rattle.ring_log.specs.Epochs.{Epoch, epochs_with_sends, epochs_with_trim}
use Rattle.ring_log.proofs.CommittedOf.{epochs_with_sends-kept}
use Rattle.ring_session.specs.Table.{table_after}
use Rattle.ring_session.specs.Tickets.{answers_after}
use Rattle.ring_node_spec.specs.DueSends.{due_of_outputs}
use Rattle.ring_node_spec.specs.EpochHistories.{epochs_after}
use Rattle.ring_node_spec.specs.Nodes.{Node, node_known_log, is_closed, is_restored}
use Rattle.ring_node_spec.specs.declared.input.Input.{Input}
use Rattle.ring_node_spec.specs.declared.input.Input.TheVariants.{Frame as FrameInput, Noise as NoiseInput, Timeout as TimeInput, Stop as StopInput}
use Rattle.ring_node_spec.specs.Stepping.{NodeStepResult, node_after_outputs, with_dropped, newly_committed, drops, table_since, did, settled, after_core, node_step}
use Rattle.ring_order_proof.proofs.DisciplinedNodes.{IsOrderlyNode}
use Rattle.ring_order_proof.proofs.DroppedInSteps.{GoesOn, goes-through, core-rises}
use Rattle.ring_order_proof.proofs.KnownWhole.{Knows, Restores, done_before, newly_committed-known, since-known}
use Rattle.ring_order_proof.proofs.PiecesDue.{IsFrozen}
use Rattle.ring_order_proof.proofs.RestoredTables.{Told}

-- Places are dropped at a step's end

-- the known log is the same, except for the trimmed length
pub record IsDroppedOf {A : Type 0} (k now : KnownLog A) : Type 0 where
  pub from : now.from ≡ k.from
  pub calls : now.calls ≡ k.calls
  pub committed : now.committed ≡ k.committed
  pub snapshot : now.snapshot ≡ k.snapshot

dropped-self : {A : Type 0} (k : KnownLog A) → IsDroppedOf k k
dropped-self k = record { from = refl; calls = refl; committed = refl; snapshot = refl }

kept-epochs_with_trim : {A : Type 0} (group : Group) (places : ℕ) (epochs : List (Epoch A)) → IsDroppedOf (known_log_of group epochs) (known_log_of group (epochs_with_trim places epochs))
kept-epochs_with_trim group places [] = record { from = refl; calls = refl; committed = refl; snapshot = refl }
kept-epochs_with_trim group places (s ∷ older) = record { from = refl; calls = refl; committed = refl; snapshot = refl }

knows-undropped : {O A : Type 0} (object : Sequential O) (k now : KnownLog A) (log whole : List (Call A)) → IsDroppedOf k now → k.from ≤ k.trimmed
    → k.trimmed ≤ k.committed → Knows object now log whole → Knows object k log whole
knows-undropped object k now log whole same low high g = record {
  calls = sym same.calls ∙ g.calls ∙ ap (λ n. drop n log) same.from;
  low = low;
  high = high;
  committed = sym same.committed ∙ g.committed;
  within = g.within;
  told = subst (λ n. Told object n k.snapshot log) same.from (subst (λ bytes. Told object now.from bytes log) same.snapshot g.told);
}

-- A step of a node

pub record HasSoundEpochs {A : Type 0} (n : Node A) : Type 0 where
  pub orderly : IsOrderlyNode n
  pub frozen : IsFrozen n.group n.epochs

module _ {O A : Type 0} (object : Sequential O) where
  -- a step without outputs
  pub record Rests (n : Node A) (s : NodeStepResult A) : Type 0 where
    pub answers : s.answers ≡ []
    pub epochs : s.node.epochs ≡ n.epochs
    pub group : s.node.group ≡ n.group
    pub done : s.node.done ≡ n.done
    pub given : s.node.answers ≡ n.answers
    pub tickets : s.node.tickets ≡ n.tickets

  -- a step with outputs, given the known log before places are dropped
  pub record Moves (n : Node A) (s : NodeStepResult A) : Type 0 where
    pub known : KnownLog A
    pub goes : GoesOn (node_known_log n) known
    pub dropped : IsDroppedOf known (node_known_log s.node)
    pub answers : s.answers ≡ answers_after object (table_since object (node_known_log n) known) n.tickets n.done (newly_committed (node_known_log n) known)
    pub done : s.node.done ≡ n.done ++ newly_committed (node_known_log n) known
    pub given : s.node.answers ≡ n.answers ++ s.answers
    pub tickets : s.node.tickets ≡ n.tickets

  settled-moves : (b : Bool) (n : Node A) (core : Core A) (outs : List (Out A)) (epochs : List (Epoch A)) (due : List (Payload A))
      → GoesOn (node_known_log n) (known_log_of n.group epochs)
      → Rests n (settled object b n (node_after_outputs n core epochs due) outs (known_log_of n.group epochs))
      ⊎ Moves n (settled object b n (node_after_outputs n core epochs due) outs (known_log_of n.group epochs))
  settled-moves false n core outs epochs due goes =
      inl (record { answers = refl; epochs = refl; group = refl; done = refl; given = refl; tickets = refl })
  settled-moves true n core outs epochs due goes =
      let k = known_log_of n.group epochs in
      let new = node_after_outputs n core epochs due in
      let s = did object n new outs k (newly_committed (node_known_log n) k) in
      let same : known_log_of n.group (epochs_with_sends due epochs) ≡ k = epochs_with_sends-kept n.group due epochs in
      inr (cond_both (drops object (is_closed n.group new.epochs) k)
      (record s { node = with_dropped k.committed s.node; dropped = committed_calls (retained_log k) }) s
      (λ (x : NodeStepResult A). Moves n x)
      (λ t. record {
        known = k;
        goes = goes;
        dropped = subst (λ (x : KnownLog A). IsDroppedOf x (known_log_of n.group (epochs_with_trim k.committed (epochs_with_sends due epochs)))) same
            (kept-epochs_with_trim n.group k.committed (epochs_with_sends due epochs));
        answers = refl;
        done = refl;
        given = refl;
        tickets = refl;
      })
      (λ f. record {
        known = k;
        goes = goes;
        dropped = subst (λ (x : KnownLog A). IsDroppedOf k x) (sym same) (dropped-self k);
        answers = refl;
        done = refl;
        given = refl;
        tickets = refl;
      }))

  core-moves : (n : Node A) (input : CoreInput A) → HasSoundEpochs n
      → Rests n (after_core object n (ring_step n.core input)) ⊎ Moves n (after_core object n (ring_step n.core input))
  core-moves n input steady =
      let o = steady.orderly in
      let s = ring_step n.core input in
      let epochs = epochs_after n.epochs s.outs in
      let goes : GoesOn (node_known_log n) (known_log_of n.group epochs) =
      subst (λ (l : List (Epoch A)). GoesOn (known_log_of n.group l) (known_log_of n.group (epochs_after l s.outs))) (sym o.epochs)
      (goes-through n.group o.epoch o.older s.outs (subst (IsFrozen n.group) o.epochs steady.frozen) (core-rises n.core input o.epoch.mark o.stands.marked)) in
      settled-moves (is_known_log_sound n.group epochs && is_restored object (known_log_of n.group epochs)) n s.core s.outs epochs (due_of_outputs object n s.core n.epochs s.outs) goes

  pub step-moves : (n : Node A) (input : Input A) → HasSoundEpochs n → Rests n (node_step object n input) ⊎ Moves n (node_step object n input)
  step-moves n (FrameInput frame) steady = core-moves n (CoreFrame frame) steady
  step-moves n (TimeInput kind) steady = core-moves n (CoreTimeout kind) steady
  step-moves n NoiseInput steady = inl (record { answers = refl; epochs = refl; group = refl; done = refl; given = refl; tickets = refl })
  step-moves n StopInput steady = inl (record { answers = refl; epochs = refl; group = refl; done = refl; given = refl; tickets = refl })

  -- a node knows the whole log before a step and after it, and more of it is committed
  pub record StillKnows (n new : Node A) (whole whole' : List (Call A)) : Type 0 where
    pub log : List (Call A)
    pub log' : List (Call A)
    pub before : Knows object (node_known_log n) log whole
    pub after : Knows object (node_known_log new) log' whole'
    pub grows : IsListPrefix whole whole'

  -- the calls of the list after which a step commits, with those committed before as a prefix, and the table after them
  pub record Commits (n : Node A) (known : KnownLog A) (whole whole' : List (Call A)) : Type 0 where
    pub before : List (Call A)
    pub grows : IsListPrefix whole before
    pub parts : before ++ newly_committed (node_known_log n) known ≡ whole'
    pub since : table_since object (node_known_log n) known ≡ table_after object before
    -- if nothing was ever restored, they are exactly those committed before
    pub plain : known.from ≡ 0 → (before ≡ whole) × ((node_known_log n).from ≡ 0)

  pub commits : (n new : Node A) (whole whole' : List (Call A)) (known : KnownLog A) → GoesOn (node_known_log n) known → IsDroppedOf known (node_known_log new)
      → StillKnows n new whole whole' → Commits n known whole whole'
  commits n new whole whole' known goes same g =
      let old = node_known_log n in
      let here = knows-undropped object known (node_known_log new) g.log' whole' same kept_low kept_high g.after in
      let before = done_before object old known g.log whole g.log' whole' g.before here g.grows drops in
      let long : length whole ≤ before = (let c = g.before.committed in omega (arith, c)) in
      record {
        before = take before whole';
        grows = subst (λ l. IsListPrefix l (take before whole')) (take-whole whole whole' g.grows) (take-longer_list (length whole) before whole' long);
        parts = newly_committed-known object old known g.log whole g.log' whole' g.before here g.grows drops;
        since = since-known object old known g.log whole g.log' whole' g.before here g.grows drops;
        plain = λ none.
            let first : before ≡ length whole = (let c = g.before.committed in let h = g.before.high in omega (arith, c, h, kept_least none)) in
            (ap (λ m. take m whole') first ∙ take-whole whole whole' g.grows, old_none none);
      }
    where
      -- no more was dropped than was committed
      kept_least : known.from ≡ 0 → known.trimmed ≤ (node_known_log n).committed
      kept_least none = elim goes.trimmed as (λ _. known.trimmed ≤ (node_known_log n).committed) [
        | inl e ↦ (let h = g.before.high in omega (arith, e.0, h))
        | inr e ↦ omega (arith, e.0, none)
      ]

      old_none : known.from ≡ 0 → (node_known_log n).from ≡ 0
      old_none none = elim goes.trimmed as (λ _. (node_known_log n).from ≡ 0) [
        | inl e ↦ sym e.1 ∙ none
        | inr e ↦ (let l = g.before.low in let h = g.before.high in omega (arith, e.1, none, l, h))
      ]

      kept_low : known.from ≤ known.trimmed
      kept_low = elim goes.trimmed as (λ _. known.from ≤ known.trimmed) [
        | inl e ↦ (let l = g.before.low in omega (arith, e.0, e.1, l))
        | inr e ↦ omega (arith, e.0)
      ]

      kept_high : known.trimmed ≤ known.committed
      kept_high = elim goes.trimmed as (λ _. known.trimmed ≤ known.committed) [
        | inl e ↦ (let h = g.before.high in let c = goes.committed in omega (arith, e.0, c, h))
        | inr e ↦ (let l = g.after.low in let h = g.after.high in omega (arith, e.0, same.from, same.committed, l, h))
      ]

      drops : (node_known_log n).trimmed < known.trimmed → Restores (node_known_log n) known
      drops less = elim goes.trimmed as (λ _. Restores (node_known_log n) known) [
        | inl e ↦ absurd (omega (arith, less, e.0))
        | inr e ↦ record { from = e.0; more = e.1 }
      ]
