-- In every run, the snapshot pieces that a node hands to its core are of the snapshot that it kept as it entered the ring.
use Rattle.std.proofs.Common.{◌≡◌, ℕ, ◌&&◌, Bool, true, false, List, [], ◌∷◌, length}
use Rattle.std.proofs.Common.{inr, inl, refl, ap, sym, ◌∙◌, subst}
use Rattle.std.specs.Prelude.{nat_le}
use Rattle.std.specs.List.{AllByRecursion as Each}
use Rattle.std.proofs.lemmas.Bool.{cond_both, and_parts}
use Rattle.ring_base.specs.Group.{Group}
use Rattle.ring_base.proofs.Each.{each-append}
use Rattle.ring_object.specs.Operations.{Sequential}
use Rattle.ring_payload.specs.Limits.{max_snapshot}
use Rattle.ring_payload.specs.declared.call.Call.{Call as OneCall}
use Rattle.ring_payload.specs.declared.content.Payload.{Payload}
use Rattle.ring_payload.specs.declared.content.Payload.TheVariants.{Call}
use Rattle.ring_core_spec.specs.declared.input.Input.{Input}
use Rattle.ring_core_spec.specs.declared.input.Input.TheVariants.{Frame as FrameInput, Timeout as TimeInput}
use Rattle.ring_core_spec.specs.declared.out.Out.{Out}
use Rattle.ring_core_spec.specs.declared.out.Out.TheVariants.{Send as SendOut, Agreed as AgreedOut, Safe as SafeOut, Trans, Rest, Regular}
use Rattle.ring_core_spec.specs.State.{Core}
use Rattle.ring_core_spec.specs.Stepping.{ring_step}
use Rattle.ring_log.specs.Epochs.{Epoch, epochs_with_sends, epochs_with_trim}
use Rattle.ring_log.specs.EpochHistories.{messages_upto}
use Rattle.ring_log.specs.Logs.{committed_calls, is_due_to_trim}
use Rattle.ring_log.specs.KnownLog.{KnownLog, known_log_of, retained_log, is_known_log_sound}
use Rattle.ring_log_proof.specs.RingFacts.{HasEpoch}
use Rattle.ring_log_proof.specs.EpochEvents.{IsEpochsExtended}
use Rattle.ring_node_spec.specs.declared.input.Input.{Input as NodeInput}
use Rattle.ring_node_spec.specs.declared.input.Input.TheVariants.{Frame as NodeFrame, Noise as NodeNoise, Timeout as NodeTime, Stop as NodeStop}
use Rattle.ring_node_spec.specs.DueSends.{due_of_outputs}
use Rattle.ring_node_spec.specs.EpochHistories.{epochs_after_event, epochs_after}
use Rattle.ring_node_spec.specs.Nodes.{Node, node_known_log, snapshot_at, snapshot_kept, is_restored, is_closed, runs_adopted}
use Rattle.ring_node_spec.specs.Stepping.{NodeStepResult, node_after_outputs, with_dropped, newly_committed, drops, step_after_trim, did, settled, after_core, node_step, due_by_submit, node_after_submit}
use Rattle.ring_node_spec.specs.declared.event.Event.{Event}
use Rattle.ring_node_spec.specs.Worlds.{world_opening, run}
use Rattle.ring_order_proof.specs.MidStep.{stepped_node}
use Rattle.ring_order_proof.proofs.DisciplinedNodes.{IsOrderlyNode}
use Rattle.ring_order_proof.proofs.HonestPieces.{IsPieceOf}
use Rattle.ring_order_proof.proofs.KeptByNodes.{all_have_orderly}
use Rattle.ring_order_proof.proofs.PiecesDue.{P, Ends, IsFrozen, frozen-through, frozen-epochs_with_sends, frozen-epochs_with_trim, core-ends}

-- ---- nodes

module _ {O A : Type 0} (object : Sequential O) where
  abbrev AllPieces : Group → List (Epoch A) → Type 0
  AllPieces group [] = Unit {0}
  AllPieces group (s ∷ older) = Each (IsPieceOf (snapshot_kept object (known_log_of group older))) s.sent × AllPieces group older

  pieces-epochs_after_event : (group : Group) (epochs : List (Epoch A)) (o : Out A) → AllPieces group epochs → AllPieces group (epochs_after_event epochs o)
  pieces-epochs_after_event group epochs (Regular ring members) k = (tt, k)
  pieces-epochs_after_event group [] (AgreedOut ring n x) k = k
  pieces-epochs_after_event group (s ∷ older) (AgreedOut ring n x) k = k
  pieces-epochs_after_event group [] (SafeOut ring upto) k = k
  pieces-epochs_after_event group (s ∷ older) (SafeOut ring upto) k = k
  pieces-epochs_after_event group epochs (SendOut to frame) k = k
  pieces-epochs_after_event group epochs (Trans old new set) k = k
  pieces-epochs_after_event group epochs (Rest ring n x) k = k

  pieces-through : (group : Group) (epochs : List (Epoch A)) (outs : List (Out A)) → AllPieces group epochs → AllPieces group (epochs_after epochs outs)
  pieces-through group epochs [] k = k
  pieces-through group epochs (o ∷ outs) k = pieces-through group (epochs_after_event epochs o) outs (pieces-epochs_after_event group epochs o k)

  pieces-epochs_with_trim : (group : Group) (places : ℕ) (epochs : List (Epoch A)) → AllPieces group epochs → AllPieces group (epochs_with_trim places epochs)
  pieces-epochs_with_trim group places [] k = k
  pieces-epochs_with_trim group places (s ∷ older) k = k

  pub record HandsOwn (n : Node A) : Type 0 where
    pub frozen : IsFrozen n.group n.epochs
    pub pieces : AllPieces n.group n.epochs

  -- a core stepped, and nothing is handed over yet
  pub stepped-own : (n : Node A) (input : Input A) → HandsOwn n → HandsOwn (stepped_node n input)
  stepped-own n input k =
      let outs = (ring_step n.core input).outs in
      record { frozen = frozen-through n.group n.epochs outs k.frozen; pieces = pieces-through n.group n.epochs outs k.pieces }

  -- with the due payloads handed over
  node_after_outputs-own : (n : Node A) (core : Core A) (outs : List (Out A)) → Ends object n core n.epochs outs → HandsOwn n
      → HandsOwn (node_after_outputs n core (epochs_after n.epochs outs) (due_of_outputs object n core n.epochs outs))
  node_after_outputs-own n core outs e k =
      let due = due_of_outputs object n core n.epochs outs in
      let now : AllPieces n.group (e.epoch ∷ e.older) = subst (AllPieces n.group) e.is (pieces-through n.group n.epochs outs k.pieces) in
      record {
        frozen = frozen-epochs_with_sends n.group due (epochs_after n.epochs outs) (frozen-through n.group n.epochs outs k.frozen);
        pieces = subst (λ (l : List (Epoch A)). AllPieces n.group (epochs_with_sends due l)) (sym e.is)
            (each-append (P object n core e.older) e.epoch.sent due now.0 e.due, now.1);
      }

  -- a step: it has no outputs, or places are dropped at its end
  step_after_trim-own : (closed : Bool) (k : KnownLog A) (s : NodeStepResult A) → (closed ≡ true → is_closed s.node.group s.node.epochs ≡ true) → HandsOwn s.node
      → HandsOwn (step_after_trim object closed k s).node
  step_after_trim-own closed k s c h =
      cond_both (drops object closed k) (record s { node = with_dropped k.committed s.node; dropped = committed_calls (retained_log k) }) s
      (λ (x : NodeStepResult A). HandsOwn x.node)
      (λ t.
      let shut = (and_parts closed (is_due_to_trim (retained_log k))
      (and_parts (closed && is_due_to_trim (retained_log k)) (nat_le (length (snapshot_at object k k.committed)) max_snapshot) t).0).0 in
      record {
        frozen = frozen-epochs_with_trim s.node.group k.committed s.node.epochs (c shut);
        pieces = pieces-epochs_with_trim s.node.group k.committed s.node.epochs h.pieces;
      })
      (λ f. h)

  settled-own : (b : Bool) (old new : Node A) (outs : List (Out A)) (k : KnownLog A) → new.group ≡ old.group → HandsOwn old → HandsOwn new
      → HandsOwn (settled object b old new outs k).node
  settled-own false old new outs k same h g = record { frozen = h.frozen; pieces = h.pieces }
  settled-own true old new outs k same h g =
      step_after_trim-own (is_closed old.group new.epochs) k (did object old new outs k (newly_committed (node_known_log old) k))
      (λ t. ap (λ group. is_closed group new.epochs) same ∙ t) (record { frozen = g.frozen; pieces = g.pieces })

  core-own : (n : Node A) (input : Input A) → IsOrderlyNode n → HandsOwn n → HandsOwn (after_core object n (ring_step n.core input)).node
  core-own n input o k =
      let s = ring_step n.core input in
      let epochs = epochs_after n.epochs s.outs in
      let due = due_of_outputs object n s.core n.epochs s.outs in
      let ends : Ends object n s.core n.epochs s.outs =
      subst (λ (l : List (Epoch A)). Ends object n s.core l s.outs) (sym o.epochs)
      (core-ends object n o.epoch o.older input o.ordered (subst (IsFrozen n.group) o.epochs k.frozen)) in
      settled-own (is_known_log_sound n.group epochs && is_restored object (known_log_of n.group epochs)) n (node_after_outputs n s.core epochs due) s.outs (known_log_of n.group epochs) refl k
      (node_after_outputs-own n s.core s.outs ends k)

  step-own : (n : Node A) (input : NodeInput A) → IsOrderlyNode n → IsEpochsExtended n.epochs (node_step object n input).node.epochs → HandsOwn n
      → HandsOwn (node_step object n input).node
  step-own n (NodeFrame frame) o on k = core-own n (FrameInput frame) o k
  step-own n (NodeTime kind) o on k = core-own n (TimeInput kind) o k
  step-own n NodeNoise o on k = k
  step-own n NodeStop o on k = record { frozen = k.frozen; pieces = k.pieces }

  epochs_with_sends-call : (group : Group) (due : List (Payload A)) → ((bytes : List ℕ) → Each (IsPieceOf bytes) due) → (epochs : List (Epoch A)) → AllPieces group epochs
      → AllPieces group (epochs_with_sends due epochs)
  epochs_with_sends-call group due h [] k = k
  epochs_with_sends-call group due h (s ∷ older) k =
      (each-append (IsPieceOf (snapshot_kept object (known_log_of group older))) s.sent due k.0 (h (snapshot_kept object (known_log_of group older))), k.1)

  submit-own : (n : Node A) (c : OneCall A) → HandsOwn n → HandsOwn (node_after_submit n c)
  submit-own n c k =
      let due = due_by_submit n c in
      record {
        frozen = frozen-epochs_with_sends n.group due n.epochs k.frozen;
        pieces = epochs_with_sends-call n.group due
            (λ bytes. cond_both (runs_adopted n) (Call c ∷ []) [] (Each (IsPieceOf bytes)) (λ t. (tt, tt)) (λ f. tt)) n.epochs k.pieces;
      }

  pub all_hand_own : (group : Group) (events : List (Event A)) (i : ℕ) → HandsOwn ((run object (world_opening group) events).nodes i)
  all_hand_own =
      all_have_orderly object HandsOwn (record {
        opens = λ group me. record { frozen = λ f. refl; pieces = (tt, tt) };
        steps = step-own;
        submits = λ n c e h. submit-own n c h;
        stops = λ n h. record { frozen = h.frozen; pieces = h.pieces };
      })

  -- the same of each epoch
  epoch-pieces : (group : Group) (epochs : List (Epoch A)) → AllPieces group epochs → (s : Epoch A) (older : List (Epoch A)) → HasEpoch epochs s older
      → Each (IsPieceOf (snapshot_kept object (known_log_of group older))) s.sent
  epoch-pieces group [] k s older i = absurd i
  epoch-pieces group (t ∷ before) k s older (inl e) =
      subst (λ (u : Epoch A). Each (IsPieceOf (snapshot_kept object (known_log_of group older))) u.sent) e.0
      (subst (λ (l : List (Epoch A)). Each (IsPieceOf (snapshot_kept object (known_log_of group l))) t.sent) e.1 k.0)
  epoch-pieces group (t ∷ before) k s older (inr i) = epoch-pieces group before k.1 s older i

  pub own-pieces : (n : Node A) → HandsOwn n → (s : Epoch A) (older : List (Epoch A)) → HasEpoch n.epochs s older
      → Each (IsPieceOf (snapshot_kept object (known_log_of n.group older))) s.sent
  own-pieces n h s older i = epoch-pieces n.group n.epochs h.pieces s older i
