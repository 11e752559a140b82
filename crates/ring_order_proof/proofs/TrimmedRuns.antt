-- After each event of a run no node has committed places that are due to be dropped, and no known log has more places than a log
-- may have.
use Rattle.std.proofs.Common.{◌≡◌, ℕ, ◌-◌, ◌≤◌, Bool, true, false, ◌&&◌, List, [], ◌∷◌, length, Option, None, refl, ap, sym, ◌∙◌, arith}
use Rattle.std.specs.Prelude.{nat_le}
use Rattle.std.proofs.lemmas.Bool.{cond_both, and_parts, and_left, and_right, leb-true}
use Rattle.ring_base.specs.Group.{Group, is_primary}
use Rattle.ring_base.specs.Numbers.{max_number}
use Rattle.ring_base.specs.Processors.{only}
use Rattle.ring_object.specs.Operations.{Sequential}
use Rattle.ring_payload.specs.Limits.{max_snapshot}
use Rattle.ring_payload.specs.declared.call.Call.{Call as OneCall}
use Rattle.ring_payload.specs.declared.content.Payload.{Payload}
use Rattle.ring_core_spec.specs.declared.input.Input.TheVariants.{Frame as CoreFrame, Timeout as CoreTimeout}
use Rattle.ring_core_spec.specs.declared.out.Out.{Out}
use Rattle.ring_core_spec.specs.State.{Core, StepResult}
use Rattle.ring_core_spec.specs.Stepping.{ring_step}
use Rattle.ring_log.specs.KnownLog.{KnownLog, known_log_opening, known_log_after_epoch, dropped_by, known_log_of, known_log_length, retained_log, is_known_log_sound}
use Rattle.ring_log.specs.EpochHistories.{CompleteExchange, complete_exchange}
use Rattle.ring_log.specs.Logs.{committed_calls, trim_after, is_due_to_trim}
use Rattle.ring_log.specs.Epochs.{Epoch, history_opening_of, epochs_with_sends, epochs_with_trim}
use Rattle.ring_log.proofs.CommittedOf.{epochs_with_sends-kept}
use Rattle.ring_log_proof.proofs.KnownLogSuffixes.{kept-short}
use Rattle.ring_node_spec.specs.DueSends.{due_of_outputs}
use Rattle.ring_node_spec.specs.EpochHistories.{epochs_after}
use Rattle.ring_node_spec.specs.Nodes.{Node, node_opening, node_known_log, is_closed, is_restored, snapshot_at}
use Rattle.ring_node_spec.specs.Stepping.{NodeStepResult, node_after_outputs, with_dropped, newly_committed, drops, step_after_trim, did, settled, after_core, node_step, due_by_submit, node_after_submit}
use Rattle.ring_node_spec.specs.declared.event.Event.{Event}
use Rattle.ring_node_spec.specs.declared.input.Input.{Input}
use Rattle.ring_node_spec.specs.declared.input.Input.TheVariants.{Frame as FrameInput, Noise as NoiseInput, Timeout as TimeInput, Stop as StopInput}
use Rattle.ring_node_spec.specs.Worlds.{world_opening, run}
use Rattle.ring_order_proof.proofs.KeptByNodes.{all_have}

-- Both facts after a life's events

pub epochs_with_sends-closed : {A : Type 0} (group : Group) (due : List (Payload A)) (epochs : List (Epoch A)) → is_closed group (epochs_with_sends due epochs) ≡ is_closed group epochs
epochs_with_sends-closed group due [] = refl
epochs_with_sends-closed group due (s ∷ older) = refl

epochs_with_trim-length : {A : Type 0} (group : Group) (places : ℕ) (epochs : List (Epoch A))
    → known_log_length (known_log_of group (epochs_with_trim places epochs)) ≡ known_log_length (known_log_of group epochs)
epochs_with_trim-length group places [] = refl
epochs_with_trim-length group places (s ∷ older) = refl

-- nothing is due once all is dropped
pub epochs_with_trim-unripe : {A : Type 0} (group : Group) (places : ℕ) (epochs : List (Epoch A)) → places ≡ (known_log_of group epochs).committed
    → is_due_to_trim (retained_log (known_log_of group (epochs_with_trim places epochs))) ≡ false
epochs_with_trim-unripe group places [] is = refl
epochs_with_trim-unripe group places (s ∷ older) is =
    let k = known_log_of group (s ∷ older) in
    let now = known_log_of group (epochs_with_trim places (s ∷ older)) in
    let none : now.committed - now.trimmed ≡ 0 = omega (arith, is) in
    ap (nat_le trim_after) none

pub history_opening_of-kept : (A : Type 0) (group : Group) (me : ℕ) → known_log_of group (history_opening_of {A = A} me) ≡ dropped_by 0 known_log_opening
history_opening_of-kept A group me =
    let none : complete_exchange {A = A} group (only me) [] ≡ None = cond_both (is_primary group (only me)) None None (λ (o : Option (CompleteExchange A)). o ≡ None) (λ t. refl)
    (λ f. refl) in
    ap (λ (o : Option (CompleteExchange A)). dropped_by 0 (known_log_after_epoch (record { seq = 0; rep = me }) known_log_opening o o)) none

module _ {O A : Type 0} (object : Sequential O) where
  pub drops-unripe : (closed : Bool) (k : KnownLog A) → is_due_to_trim (retained_log k) ≡ false → drops object closed k ≡ false
  drops-unripe closed k unripe =
      let short = nat_le (length (snapshot_at object k k.committed)) max_snapshot in
      and_left (closed && is_due_to_trim (retained_log k)) short (and_right closed (is_due_to_trim (retained_log k)) unripe)

  -- a node that would drop nothing now, and whose log isn't too long
  pub record IsUndropping (n : Node A) : Type 0 where
    pub none : drops object (is_closed n.group n.epochs) (node_known_log n) ≡ false
    pub short : known_log_length (node_known_log n) ≤ max_number

  -- A step

  step_after_trim-none : (closed : Bool) (k : KnownLog A) (s : NodeStepResult A) → closed ≡ is_closed s.node.group s.node.epochs → k ≡ node_known_log s.node
      → known_log_length k ≤ max_number → IsUndropping (step_after_trim object closed k s).node
  step_after_trim-none closed k s shut kept short =
      let dropped : NodeStepResult A = record s { node = with_dropped k.committed s.node; dropped = committed_calls (retained_log k) } in
      cond_both (drops object closed k) dropped s (λ (x : NodeStepResult A). IsUndropping x.node)
      (λ t. record {
        none = drops-unripe (is_closed dropped.node.group dropped.node.epochs) (node_known_log dropped.node)
            (epochs_with_trim-unripe s.node.group k.committed s.node.epochs (ap (λ (x : KnownLog A). x.committed) kept));
        short =
            let same = epochs_with_trim-length s.node.group k.committed s.node.epochs in
            let own = ap (λ (x : KnownLog A). known_log_length x) kept in
            omega (arith, same, own, short);
      })
      (λ f. record {
        none = sym (ap (λ b. drops object b k) shut ∙ ap (drops object (is_closed s.node.group s.node.epochs)) kept) ∙ f;
        short = (let own = ap (λ (x : KnownLog A). known_log_length x) kept in omega (arith, own, short));
      })

  settled-none : (b : Bool) (n : Node A) (core : Core A) (outs : List (Out A)) (epochs : List (Epoch A)) (due : List (Payload A))
      → (b ≡ true → is_known_log_sound n.group epochs ≡ true) → IsUndropping n
      → IsUndropping (settled object b n (node_after_outputs n core epochs due) outs (known_log_of n.group epochs)).node
  settled-none false n core outs epochs due sound h = record { none = h.none; short = h.short }
  settled-none true n core outs epochs due sound h =
      let k = known_log_of n.group epochs in
      step_after_trim-none (is_closed n.group (epochs_with_sends due epochs)) k (did object n (node_after_outputs n core epochs due) outs k (newly_committed (node_known_log n) k)) refl
      (sym (epochs_with_sends-kept n.group due epochs)) (leb-true (known_log_length k) max_number (kept-short n.group epochs (sound refl)))

  core-none : (n : Node A) (s : StepResult A) → IsUndropping n → IsUndropping (after_core object n s).node
  core-none n s h =
      let epochs = epochs_after n.epochs s.outs in
      settled-none (is_known_log_sound n.group epochs && is_restored object (known_log_of n.group epochs)) n s.core s.outs epochs (due_of_outputs object n s.core n.epochs s.outs)
      (λ t. (and_parts (is_known_log_sound n.group epochs) (is_restored object (known_log_of n.group epochs)) t).0) h

  step-none : (n : Node A) (input : Input A) → IsUndropping n → IsUndropping (node_step object n input).node
  step-none n (FrameInput frame) h = core-none n (ring_step n.core (CoreFrame frame)) h
  step-none n (TimeInput kind) h = core-none n (ring_step n.core (CoreTimeout kind)) h
  step-none n NoiseInput h = h
  step-none n StopInput h = record { none = h.none; short = h.short }

  -- The opening, and a submit

  opening-none : (group : Group) (me : ℕ) → IsUndropping (node_opening {A = A} group me)
  opening-none group me =
      let n : Node A = node_opening group me in
      let same = history_opening_of-kept A group me in
      record {
        none = drops-unripe (is_closed n.group n.epochs) (node_known_log n) (ap (λ (k : KnownLog A). is_due_to_trim (retained_log k)) same);
        short = (let own = ap (λ (k : KnownLog A). known_log_length k) same in omega (arith, own));
      }

  submit-none : (n : Node A) (c : OneCall A) → IsUndropping n → IsUndropping (node_after_submit n c)
  submit-none n c h =
      let due = due_by_submit n c in
      let same = epochs_with_sends-kept n.group due n.epochs in
      record {
        none = ap (λ b. drops object b (node_known_log (node_after_submit n c))) (epochs_with_sends-closed n.group due n.epochs)
            ∙ ap (drops object (is_closed n.group n.epochs)) same ∙ h.none;
        short = (let own = ap (λ (k : KnownLog A). known_log_length k) same in let l = h.short in omega (arith, own, l));
      }

  -- the same of each node of every run
  pub all-undropping : (group : Group) (events : List (Event A)) (i : ℕ) → IsUndropping ((run object (world_opening group) events).nodes i)
  all-undropping =
      all_have object IsUndropping (record {
        opens = opening-none;
        steps = λ n input on h. step-none n input h;
        submits = λ n c free h. submit-none n c h;
        stops = λ n h. record { none = h.none; short = h.short };
      })
