-- A life extended by outputs: the known log at each of them, from the known log before them.
use Rattle.std.proofs.Common.{◌≡◌, ℕ, ◌<◌, ◌==◌, ◌&&◌, max, true, false, List, [], ◌∷◌, ◌⊎◌, inl, inr, None, refl, ap, sym, ◌∙◌, subst, arith}
use Rattle.std.proofs.Common.{if◌then◌else◌}
use Rattle.std.specs.Prelude.{nat_lt}
use Rattle.std.proofs.lemmas.Bool.{and_from, and_right, cond-true, cond-false, lt-ltb, eq-eqb, ne_eqb}
use Rattle.ring_base.specs.Group.{Group}
use Rattle.ring_base.specs.declared.ring_id.RingId.{RingId}
use Rattle.ring_object.specs.Operations.{Sequential}
use Rattle.ring_core_spec.specs.declared.out.Out.{Out}
use Rattle.ring_core_spec.specs.declared.out.Out.TheVariants.{Send, Agreed, Safe, Trans, Rest, Regular}
use Rattle.ring_log.specs.KnownLog.{KnownLog, IsKnownLog, known_log_after_epoch, known_log_of, retained_log, is_known_log_sound}
use Rattle.ring_log.specs.EpochHistories.{complete_exchange, messages_upto}
use Rattle.ring_log.specs.Epochs.{Epoch, epochs_with_sends, epochs_with_trim}
use Rattle.ring_payload.specs.declared.content.Payload.{Payload}
use Rattle.ring_replication.proofs.Known.{known-epoch}
use Rattle.ring_replication.specs.NodeSpec.{epochs_after_event, epochs_after, snapshot_at, snapshot_kept}
use Rattle.ring_replication.specs.declared.log_watermark.LogWatermark.{LogWatermark}
use Rattle.ring_replication.specs.declared.delivery_context.DeliveryContext.{DeliveryContext}
use Rattle.ring_replication.specs.declared.exchange_stage.ExchangeStage.{ExchangeStage}
use Rattle.ring_replication.specs.Replications.{HeldLog, StepContext, bytes_at, stage_in, watermarks_from, messages_after, rises_at, IsKnownLogExtended, MayRestore, IsReplicationKept, HasSoundEpochs}
use Rattle.ring_replication.proofs.ReplicationSteps.{kept-epochs_with_message, sound-epochs_with_message, kept-epochs_with_mark, kept-enters, kept-epochs_with_sends}
use Rattle.ring_replication.proofs.KnownLogSound.{epoch-parts, sound-epochs_after_event}
use Rattle.ring_replication.proofs.IsKnownLogExtended.{known-self, known-trans}
use Rattle.ring_replica.proofs.SessionsUnchanged.{snapshot-on}
use Rattle.ring_replication.proofs.Messages.{never-less}

-- a snapshot was restored, of more places than were dropped
pub record DropsMore {A : Type 0} (k now : KnownLog A) : Type 0 where
  pub trimmed : k.trimmed < now.trimmed
  pub from : now.trimmed ≡ now.from

abbrev pub KnowsOn : {A : Type 0} → KnownLog A → KnownLog A → Type 0
KnowsOn k now = IsKnownLogExtended k now ⊎ DropsMore k now

pub knows-trans : {A : Type 0} (a b c : KnownLog A) → KnowsOn a b → KnowsOn b c → KnowsOn a c
knows-trans a b c (inl x) (inl y) = inl (known-trans a b c x y)
knows-trans a b c (inl x) (inr y) = inr (record { trimmed = omega (arith, x.trimmed, y.trimmed); from = y.from })
knows-trans a b c (inr x) (inl y) = inr (record { trimmed = omega (arith, x.trimmed, y.trimmed); from = y.trimmed ∙ x.from ∙ sym y.from })
knows-trans a b c (inr x) (inr y) = inr (record { trimmed = omega (arith, x.trimmed, y.trimmed); from = y.from })

knows-by : {A : Type 0} (old new : HeldLog A) (k now : KnownLog A) → MayRestore old new k now → KnowsOn k now
knows-by old new k now (inl g) = inl g.known
knows-by old new k now (inr g) = inr (record { trimmed = g.trimmed; from = g.from })

-- a stored log for such a life
abbrev held_as : {A : Type 0} → KnownLog A → HeldLog A
held_as k = record { log = retained_log k; before = None; snapshot = k.snapshot }

abbrev reaches_as : {A : Type 0} → Group → Epoch A → List (Epoch A) → List LogWatermark
reaches_as group s older = watermarks_from group s.members s.ring (known_log_of group older) (messages_upto s.mark s.heard) (messages_after s.mark s.heard)

replication-of : {A : Type 0} {group : Group} {epochs : List (Epoch A)} (k : HasSoundEpochs group epochs)
    → IsReplicationKept group epochs (held_as (known_log_of group epochs)) k.epoch.ring (stage_in group k.epoch.members k.epoch.heard) k.epoch.mark
    (reaches_as group k.epoch k.older)
replication-of k =
    record {
      epoch = k.epoch;
      older = k.older;
      parts = k.parts;
      in_ring = refl;
      stands = refl;
      safe = refl;
      unsafe = refl;
      logged = refl;
      known = k.known;
      within = k.within;
      frozen = k.frozen;
      restored = λ low same. refl;
      sound = k.sound;
    }

pub steady-of : {A : Type 0} {group : Group} {epochs : List (Epoch A)} {held : HeldLog A} {ring : RingId} {stage : ExchangeStage A} {mark : ℕ} {watermarks : List LogWatermark}
    → IsReplicationKept group epochs held ring stage mark watermarks → HasSoundEpochs group epochs
steady-of k =
    record { epoch = k.epoch; older = k.older; parts = k.parts; known = k.known; within = k.within; frozen = k.frozen; sound = k.sound }

pub steady-known : {A : Type 0} {group : Group} {epochs : List (Epoch A)} → HasSoundEpochs group epochs → IsKnownLog (known_log_of group epochs)
steady-known {group} k =
    let p = epoch-parts group k.epoch k.older (ap (is_known_log_sound group) (sym k.parts) ∙ k.sound) in
    subst (λ l. IsKnownLog (known_log_of group l)) (sym k.parts) (known-epoch group k.epoch k.older k.known p.keeps k.within)

-- payloads handed over change nothing of it
pub steady-epochs_with_sends : {A : Type 0} (group : Group) (epochs : List (Epoch A)) (due : List (Payload A)) → HasSoundEpochs group epochs → HasSoundEpochs group (epochs_with_sends due epochs)
steady-epochs_with_sends group epochs due k =
    steady-of (kept-epochs_with_sends group epochs (held_as (known_log_of group epochs)) k.epoch.ring (stage_in group k.epoch.members k.epoch.heard) k.epoch.mark
    (reaches_as group k.epoch k.older) due (replication-of k))

-- the life after one output
pub record OneMore {A : Type 0} (group : Group) (epochs after : List (Epoch A)) : Type 0 where
  pub steady : HasSoundEpochs group after
  pub knows : KnowsOn (known_log_of group epochs) (known_log_of group after)

pub steady-epochs_after_event : {A : Type 0} (group : Group) (epochs : List (Epoch A)) (o : Out A) → HasSoundEpochs group epochs → is_known_log_sound group (epochs_after_event epochs o) ≡ true
    → rises_at epochs o ≡ true → OneMore group epochs (epochs_after_event epochs o)
steady-epochs_after_event {A} group epochs (Agreed ring n x) k t r =
    let c = replication-of k in
    let delivery_context : DeliveryContext = record { ring = k.epoch.ring; runs = false; me = 0; committed = 0 } in
    let held = held_as (known_log_of group epochs) in
    let stage = stage_in group k.epoch.members k.epoch.heard in
    let watermarks = reaches_as group k.epoch k.older in
    let fits = sound-epochs_with_message group epochs held k.epoch.ring stage k.epoch.mark watermarks x delivery_context [] c refl ∙ t in
    let now = kept-epochs_with_message group epochs held k.epoch.ring stage k.epoch.mark watermarks x delivery_context [] c refl fits _ _ _ refl refl refl in
    record { steady = steady-of now.0; knows = knows-by held _ (known_log_of group epochs) _ now.1.held }
steady-epochs_after_event group epochs (Safe ring upto) k t r =
    let c = replication-of k in
    let held = held_as (known_log_of group epochs) in
    let now = kept-epochs_with_mark group epochs held k.epoch.ring (stage_in group k.epoch.members k.epoch.heard) k.epoch.mark (reaches_as group k.epoch k.older) upto c r in
    record { steady = steady-of now.0; knows = knows-by held _ (known_log_of group epochs) _ now.1.held }
steady-epochs_after_event group epochs (Regular ring set) k t r =
    let held = held_as (known_log_of group epochs) in
    let now = kept-enters group epochs held ring set k.sound (steady-known k) refl (λ low same. refl) in
    record { steady = steady-of now.0; knows = knows-by held held (known_log_of group epochs) _ now.1.held }
steady-epochs_after_event group epochs (Send to frame) k t r = record { steady = k; knows = inl (known-self (known_log_of group epochs)) }
steady-epochs_after_event group epochs (Trans old new set) k t r = record { steady = k; knows = inl (known-self (known_log_of group epochs)) }
steady-epochs_after_event group epochs (Rest ring n x) k t r = record { steady = k; knows = inl (known-self (known_log_of group epochs)) }

pub sound-through : {A : Type 0} (group : Group) (epochs : List (Epoch A)) (outs : List (Out A)) → is_known_log_sound group (epochs_after epochs outs) ≡ true
    → is_known_log_sound group epochs ≡ true
sound-through group epochs [] t = t
sound-through group epochs (o ∷ outs) t = sound-epochs_after_event group epochs o (sound-through group (epochs_after_event epochs o) outs t)

-- the snapshot that a node keeps is the one from before, or the one restored since
pub bytes-same : {O A : Type 0} (object : Sequential O) (m : StepContext A) (k now : KnownLog A) → m.trimmed ≡ k.trimmed → m.snapshot ≡ snapshot_kept object k
    → IsKnownLog k → KnowsOn k now → snapshot_kept object now ≡ bytes_at m now
bytes-same object m k now t b is (inl on) =
    snapshot-on object k now on is ∙ sym b
    ∙ sym (ap (λ n. if nat_lt m.trimmed n then now.snapshot else m.snapshot) (on.trimmed ∙ sym t)
    ∙ cond-false (nat_lt m.trimmed m.trimmed) now.snapshot m.snapshot (never-less m.trimmed))
bytes-same object m k now t b is (inr more) =
    cond-true (nat_lt 0 now.from && (now.trimmed == now.from)) now.snapshot (snapshot_at object now now.trimmed)
    (and_from (nat_lt 0 now.from) (now.trimmed == now.from) (lt-ltb 0 now.from (omega (arith, more.trimmed, more.from)))
    (eq-eqb now.trimmed now.from more.from))
    ∙ sym (cond-true (nat_lt m.trimmed now.trimmed) now.snapshot m.snapshot (lt-ltb m.trimmed now.trimmed (omega (arith, t, more.trimmed))))

-- ---- dropping places

-- the known log after all committed places are dropped
abbrev pub all_dropped : {A : Type 0} → KnownLog A → KnownLog A
all_dropped k = record k { trimmed = k.committed }

pub kept-dropped : {A : Type 0} (group : Group) (epochs : List (Epoch A)) → HasSoundEpochs group epochs
    → known_log_of group (epochs_with_trim (known_log_of group epochs).committed epochs) ≡ all_dropped (known_log_of group epochs)
kept-dropped {A} group epochs k =
    let s = k.epoch in
    let older = k.older in
    let known = known_log_of group older in
    let o = complete_exchange group s.members s.heard in
    let p = complete_exchange group s.members (messages_upto s.mark s.heard) in
    let base = known_log_after_epoch s.ring known o p in
    let is = subst (λ l. IsKnownLog (known_log_of group l)) k.parts (steady-known k) in
    let most : max base.committed base.trimmed ≡ base.committed = (let h = is.high in omega (arith, h)) in
    ap (λ l. known_log_of group (epochs_with_trim (known_log_of group l).committed l)) k.parts
    ∙ ap (λ n. record base { trimmed = n }) most
    ∙ ap (λ l. all_dropped (known_log_of group l)) (sym k.parts)

-- the snapshot of these places
pub snapshot-dropped : {O A : Type 0} (object : Sequential O) (k : KnownLog A) → IsKnownLog k → k.trimmed < k.committed
    → snapshot_kept object (all_dropped k) ≡ snapshot_at object k k.committed
snapshot-dropped object k is more =
    cond-false (nat_lt 0 k.from && (k.committed == k.from)) k.snapshot (snapshot_at object k k.committed)
    (and_right (nat_lt 0 k.from) (k.committed == k.from) (ne_eqb k.committed k.from (λ e. (let l = is.low in omega (arith, l, more, e)))))
