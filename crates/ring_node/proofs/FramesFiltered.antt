-- The frames among a core's outputs don't affect a replica: its step on the other outputs is the same, except for the frames
-- sent.
use Rattle.std.proofs.Common.{◌≡◌, Bool, true, false, ◌&&◌, List, [], ◌∷◌, ◌++◌, Option, refl, ap, sym, ◌∙◌}
use Rattle.std.specs.Prelude.{filter_map, map}
use Rattle.std.proofs.lemmas.Bool.{cond-false}
use Rattle.ring_base.specs.declared.ring_id.RingId.{RingId}
use Rattle.ring_object.specs.Operations.{Sequential}
use Rattle.ring_payload.specs.declared.content.Payload.{Payload}
use Rattle.ring_core_spec.specs.State.{OutgoingFrame}
use Rattle.ring_core_spec.specs.declared.out.Out.{Out}
use Rattle.ring_core_spec.specs.declared.out.Out.TheVariants.{Send}
use Rattle.ring_core_spec.specs.Giving.{send_of}
use Rattle.ring_srp.specs.Given.{IsGiven}
use Rattle.ring_log.specs.Epochs.{Epoch}
use Rattle.ring_log.specs.KnownLog.{known_log_of, is_known_log_sound}
use Rattle.ring_replica.specs.NodeSpec.{epochs_after, is_restored}
use Rattle.ring_replica.specs.Replications.{StepContext, due_sends_by, rises}
use Rattle.ring_replica.specs.Replicas.{Replica, ReplicaStepResult, moment_of, replica_settled, replica_step}
use Rattle.ring_node.specs.StepOutputs.{step_with_frames}

-- ---- frames before the other outputs

abbrev going : {A : Type 0} → List (OutgoingFrame A) → List (Out A)
going sends = map (λ (s : OutgoingFrame _). Send s.to s.frame) sends

epochs_after_event-behind : {A : Type 0} (epochs : List (Epoch A)) (sends : List (OutgoingFrame A)) (told : List (Out A))
    → epochs_after epochs (going sends ++ told) ≡ epochs_after epochs told
epochs_after_event-behind epochs [] told = refl
epochs_after_event-behind epochs (s ∷ sends) told = epochs_after_event-behind epochs sends told

due_sends-behind : {A : Type 0} (m : StepContext A) (epochs : List (Epoch A)) (sends : List (OutgoingFrame A)) (told : List (Out A))
    → due_sends_by m epochs (going sends ++ told) ≡ due_sends_by m epochs told
due_sends-behind m epochs [] told = refl
due_sends-behind m epochs (s ∷ sends) told = due_sends-behind m epochs sends told

rises-behind : {A : Type 0} (epochs : List (Epoch A)) (sends : List (OutgoingFrame A)) (told : List (Out A)) → rises epochs (going sends ++ told) ≡ rises epochs told
rises-behind epochs [] told = refl
rises-behind epochs (s ∷ sends) told = rises-behind epochs sends told

sent-before : {A : Type 0} (sends : List (OutgoingFrame A)) (told : List (Out A)) → filter_map send_of told ≡ [] → filter_map send_of (going sends ++ told) ≡ sends
sent-before [] told none = none
sent-before (s ∷ sends) told none = ap (λ xs. s ∷ xs) (sent-before sends told none)

-- ---- a step of a replica

module _ {A : Type 0} {outs told : List (Out A)} {sends : List (OutgoingFrame A)} (h : IsGiven outs sends told) where
  epochs_after_event-apart : (epochs : List (Epoch A)) → epochs_after epochs told ≡ epochs_after epochs outs
  epochs_after_event-apart epochs = sym (epochs_after_event-behind epochs sends told) ∙ ap (epochs_after epochs) (sym h.outs)

  due_sends-apart : (m : StepContext A) (epochs : List (Epoch A)) → due_sends_by m epochs told ≡ due_sends_by m epochs outs
  due_sends-apart m epochs = sym (due_sends-behind m epochs sends told) ∙ ap (due_sends_by m epochs) (sym h.outs)

  sends-apart : sends ≡ filter_map send_of outs
  sends-apart = sym (sent-before sends told h.told) ∙ ap (filter_map send_of) (sym h.outs)

  pub rises-apart : (epochs : List (Epoch A)) → rises epochs outs ≡ true → rises epochs told ≡ true
  rises-apart epochs t = sym (rises-behind epochs sends told) ∙ ap (rises epochs) (sym h.outs) ∙ t

  pub step-apart : {O : Type 0} (object : Sequential O) (running : Option RingId) (r : Replica A) → r.stopped ≡ false
      → step_with_frames sends (replica_step object running r told) ≡ replica_step object running r outs
  step-apart object running r runs =
      let of : List (Epoch A) → List (Payload A) → ReplicaStepResult A = λ epochs due.
      replica_settled object (is_known_log_sound r.group epochs && is_restored object (known_log_of r.group epochs)) r outs epochs due (known_log_of r.group epochs) in
      let m = moment_of object running r in
      let epochs = epochs_after r.epochs told in
      by (is_known_log_sound r.group epochs && is_restored object (known_log_of r.group epochs))
      ∙ ap (λ l. of l (due_sends_by m r.epochs told)) (epochs_after_event-apart r.epochs) ∙ ap (of (epochs_after r.epochs outs)) (due_sends-apart m r.epochs)
    where
      by : (b : Bool) → step_with_frames sends (replica_settled object b r told (epochs_after r.epochs told) (due_sends_by (moment_of object running r) r.epochs told)
          (known_log_of r.group (epochs_after r.epochs told)))
          ≡ replica_settled object b r outs (epochs_after r.epochs told) (due_sends_by (moment_of object running r) r.epochs told)
          (known_log_of r.group (epochs_after r.epochs told))
      by false = refl
      by true =
          let made = replica_settled object true r told (epochs_after r.epochs told) (due_sends_by (moment_of object running r) r.epochs told)
          (known_log_of r.group (epochs_after r.epochs told)) in
          ap (λ xs. record made { sends = xs }) (cond-false r.stopped [] sends runs ∙ sends-apart)
