-- The stored values agree with the life after a message, a safe mark, a new ring, payloads handed over and places dropped. A life
-- that isn't sound never becomes sound again.
use Rattle.std.proofs.Common.{◌≡◌, ℕ, zero, suc, ◌+◌, ◌-◌, ◌<◌, ◌≤◌, ◌&&◌, max, Bool, true, false, List, [], ◌∷◌, ◌++◌, take, drop, inl, inr}
use Rattle.std.proofs.Common.{Option, Some, None, refl, ap, sym, ◌∙◌, subst, arith, append_assoc, if◌then◌else◌}
use Rattle.std.specs.Prelude.{slice_get, nat_lt, is_some, not, ◌||◌}
use Rattle.std.proofs.lemmas.Bool.{and_parts, leb-true, lt-ltb, cond-true, cond-false}
use Rattle.std.proofs.lemmas.List.{append-nil}
use Rattle.ring_base.proofs.ListFronts.{drop-more}
use Rattle.ring_base.specs.Group.{Group, is_primary}
use Rattle.ring_base.specs.declared.ring_id.RingId.{RingId}
use Rattle.ring_payload.specs.declared.call.Call.{Call as OneCall}
use Rattle.ring_payload.specs.declared.content.Payload.{Payload}
use Rattle.ring_wire.specs.declared.message.Message.{Message}
use Rattle.ring_node_spec.specs.Outs.{Out}
use Rattle.ring_node_spec.specs.OutVariants.{Send, Agreed, Safe, Trans, Rest, Regular}
use Rattle.ring_log.specs.Exchanges.{Exchange, exchange_opening}
use Rattle.ring_log.specs.Logs.{Log, log_length, committed_upto, trimmed_log, trim_after, is_due_to_trim, is_log_length}
use Rattle.ring_log.specs.Epochs.{Epoch, epoch_opening, epochs_with_message, epochs_with_mark, epochs_with_sends, epochs_with_trim}
use Rattle.ring_log.specs.EpochHistories.{CompleteExchange, exchange_after_messages, complete_exchange, messages_upto}
use Rattle.ring_log.specs.KnownLog.{KnownLog, IsKnownLog, known_log_after_epoch, known_log_of, known_log_length, dropped_by, retained_log, keeps_kept, is_known_log_sound}
use Rattle.ring_log.proofs.CommittedOf.{epochs_with_sends-kept}
use Rattle.ring_log_proof.specs.EpochEvents.{IsEpochExtended}
use Rattle.ring_log_proof.proofs.CompleteExchanges.{complete_exchange-front, upto-front}
use Rattle.ring_log_proof.proofs.KnownGrows.{known-longer_list}
use Rattle.ring_log_proof.proofs.KnownLogs.{known-epoch}
use Rattle.ring_session.specs.declared.pending_ticket.PendingTicket.{PendingTicket}
use Rattle.ring_node_spec.specs.DueSends.{due_when_heads_complete, due_when_complete}
use Rattle.ring_node_spec.specs.EpochHistories.{epochs_after_event, epochs_after}
use Rattle.ring_node_spec.proofs.EpochsAfterOutputs.{through-append}
use Rattle.ring_node_spec.specs.Nodes.{is_closed}
use Rattle.ring_replication.specs.declared.log_watermark.LogWatermark.{LogWatermark}
use Rattle.ring_replication.specs.declared.delivery_context.DeliveryContext.{DeliveryContext}
use Rattle.ring_replication.specs.declared.exchange_stage.ExchangeStage.{ExchangeStage}
use Rattle.ring_replication.specs.Replications.{stage_in, watermark_of, watermark_at, watermarks_from, messages_after, watermarks_above, covered_places, message_effect, StepContext, bytes_at, due_context}
use Rattle.ring_replication.specs.Replications.{due_sends_on_message, due_sends_at, due_sends_by, is_risen, rises_at, rises, is_running, HeldLog, held_log_trimmed, IsRestoredSnapshotHeld}
use Rattle.ring_replication.specs.Replications.{MayRestore, IsHeldLogContinued, IsReplicationKept}
use Rattle.ring_replication.proofs.Replications.{complete_exchange-nothing, covers-upto, upto-messages_after, watermarks-push, kept_base, log_with}
use Rattle.ring_replication.proofs.Replications.{kept-log, length-with, settled, watermarks_above-settled}
use Rattle.ring_replication.proofs.Messages.{with_message, Hears, epochs_with_message-is, length-by, from-by, trimmed-by, bytes-by, calls-by, never-less}
use Rattle.ring_replication.proofs.IsKnownLogExtended.{known-self, known-trans}
use Rattle.ring_log_proof.proofs.KnownLogSuffixes.{kept-short}
use Rattle.ring_replication.proofs.KnownLogSound.{epoch-parts, epoch-sound, history_with_mark-sound, sound-epochs_after_event}

-- the same, with equal parts replaced
pub kept-as : {A : Type 0} (group : Group) (epochs epochs' : List (Epoch A)) (held held' : HeldLog A) (ring : RingId)
    (stage stage' : ExchangeStage A) (mark : ℕ) (watermarks watermarks' : List LogWatermark)
    → IsReplicationKept group epochs held ring stage mark watermarks → epochs' ≡ epochs → held' ≡ held → stage' ≡ stage → watermarks' ≡ watermarks
    → IsReplicationKept group epochs' held' ring stage' mark watermarks'
kept-as group epochs epochs' held held' ring stage stage' mark watermarks watermarks' k a b c d =
    subst (λ x. IsReplicationKept group x held' ring stage' mark watermarks') (sym a)
    (subst (λ x. IsReplicationKept group epochs x ring stage' mark watermarks') (sym b)
    (subst (λ x. IsReplicationKept group epochs held ring x mark watermarks') (sym c) (subst (λ x. IsReplicationKept group epochs held ring stage mark x) (sym d) k)))

-- ---- restored snapshots

-- the stored log continues with another log in it
with-log : {A : Type 0} (old new : HeldLog A) (log : Log A) (k now : KnownLog A) → MayRestore old new k now → MayRestore old (record new { log = log }) k now
with-log old new log k now (inl g) = inl (record { before = g.before; snapshot = g.snapshot; known = g.known })
with-log old new log k now (inr g) = inr (record { before = g.before; snapshot = g.snapshot; trimmed = g.trimmed; from = g.from; past = g.past })

-- with equal parts replaced
may-as : {A : Type 0} (old new new' : HeldLog A) (k k' now now' : KnownLog A) → MayRestore old new k now → new' ≡ new → k' ≡ k → now' ≡ now
    → MayRestore old new' k' now'
may-as old new new' k k' now now' g a b c =
    subst (λ x. MayRestore old x k' now') (sym a) (subst (λ x. MayRestore old new x now') (sym b) (subst (MayRestore old new k) (sym c) g))

restored-on : {A : Type 0} (old new : HeldLog A) (k now : KnownLog A) → MayRestore old new k now → IsRestoredSnapshotHeld k old.snapshot → IsRestoredSnapshotHeld now new.snapshot
restored-on old new k now (inl g) r = λ low same.
    g.snapshot ∙ r (omega (arith, low, g.known.from)) (sym g.known.trimmed ∙ same ∙ g.known.from) ∙ sym g.known.bytes
restored-on old new k now (inr g) r = λ low same. g.snapshot

-- if nothing changes
pub goes_none : {A : Type 0} (h new : HeldLog A) (k now : KnownLog A) → new ≡ h → now ≡ k → h.log.trimmed ≡ k.trimmed → IsHeldLogContinued h new k now
goes_none h new k now a b t =
    subst (λ x. IsHeldLogContinued h x k now) (sym a)
    (subst (λ x. IsHeldLogContinued h h k x) (sym b) (record { log = t; held = inl (record { before = refl; snapshot = refl; known = known-self k }) }))

-- with equal parts replaced
pub goes-as : {A : Type 0} (group : Group) (old new new' : HeldLog A) (k : KnownLog A) (epochs epochs' : List (Epoch A)) → IsHeldLogContinued old new k (known_log_of group epochs)
    → new' ≡ new → epochs' ≡ epochs → IsHeldLogContinued old new' k (known_log_of group epochs')
goes-as group old new new' k epochs epochs' g a b =
    subst (λ x. IsHeldLogContinued old x k (known_log_of group epochs')) (sym a) (subst (λ l. IsHeldLogContinued old new k (known_log_of group l)) (sym b) g)

-- two parts of a step, one after the other
goes-trans : {A : Type 0} (a b c : HeldLog A) (k l m : KnownLog A) → IsHeldLogContinued a b k l → IsHeldLogContinued b c l m → IsHeldLogContinued a c k m
goes-trans a b c k l m g h = record { log = h.log; held = by g.held h.held }
  where
    by : MayRestore a b k l → MayRestore b c l m → MayRestore a c k m
    by (inl x) (inl y) =
        inl (record {
          before = y.before ∙ x.before;
          snapshot = y.snapshot ∙ x.snapshot;
          known = known-trans k l m x.known y.known;
        })
    by (inl x) (inr y) =
        inr (record {
          before = y.before;
          snapshot = y.snapshot;
          trimmed = omega (arith, x.known.trimmed, y.trimmed);
          from = y.from;
          past = omega (arith, x.known.committed, y.past);
        })
    by (inr x) (inl y) =
        inr (record {
          before = ap is_some y.before ∙ x.before;
          snapshot = y.snapshot ∙ x.snapshot ∙ sym y.known.bytes;
          trimmed = omega (arith, x.trimmed, y.known.trimmed);
          from = y.known.trimmed ∙ x.from ∙ sym y.known.from;
          past = omega (arith, x.past, y.known.from);
        })
    by (inr x) (inr y) =
        inr (record {
          before = y.before;
          snapshot = y.snapshot;
          trimmed = omega (arith, x.trimmed, y.trimmed);
          from = y.from;
          past = omega (arith, x.past, x.from, y.trimmed, y.from);
        })

-- the snapshot that a step uses
pub bytes-are : {A : Type 0} (m : StepContext A) (old new : HeldLog A) (k now : KnownLog A) → m.trimmed ≡ k.trimmed → m.snapshot ≡ old.snapshot → IsHeldLogContinued old new k now
    → bytes_at m now ≡ new.snapshot
bytes-are m old new k now t b g = by g.held
  where
    by : MayRestore old new k now → bytes_at m now ≡ new.snapshot
    by (inl x) =
        ap (λ n. if nat_lt m.trimmed n then now.snapshot else m.snapshot) (x.known.trimmed ∙ sym t)
        ∙ cond-false (nat_lt m.trimmed m.trimmed) now.snapshot m.snapshot (never-less m.trimmed) ∙ b ∙ sym x.snapshot
    by (inr x) =
        cond-true (nat_lt m.trimmed now.trimmed) now.snapshot m.snapshot (lt-ltb m.trimmed now.trimmed (omega (arith, t, x.trimmed))) ∙ sym x.snapshot

pub is-restored : {A : Type 0} (old new : HeldLog A) (k now : KnownLog A) → old.log.trimmed ≡ k.trimmed → IsHeldLogContinued old new k now → old.before ≡ None
    → is_some new.before ≡ nat_lt old.log.trimmed new.log.trimmed
is-restored old new k now t g none = by g.held
  where
    by : MayRestore old new k now → is_some new.before ≡ nat_lt old.log.trimmed new.log.trimmed
    by (inl x) =
        ap is_some (x.before ∙ none) ∙ sym (ap (nat_lt old.log.trimmed) (g.log ∙ x.known.trimmed ∙ sym t) ∙ never-less old.log.trimmed)
    by (inr x) = x.before ∙ sym (lt-ltb old.log.trimmed new.log.trimmed (omega (arith, t, g.log, x.trimmed)))

-- ---- a ring that isn't adopted

closed-parts : {A : Type 0} (group : Group) (s : Epoch A) (older : List (Epoch A)) → is_primary group s.members ≡ true → complete_exchange group s.members s.heard ≡ None
    → is_closed group (s ∷ older) ≡ false
closed-parts group s older p none =
    ap (λ b. not b || is_some (complete_exchange group s.members s.heard)) p ∙ ap is_some none

closed-heard : {A : Type 0} (group : Group) (s : Epoch A) (older : List (Epoch A)) (x : Message A) → is_closed group (with_message s x ∷ older) ≡ false
    → is_closed group (s ∷ older) ≡ false
closed-heard {A} group s older x f = by (is_primary group s.members) (complete_exchange group s.members s.heard) refl f
  where
    text : List (Message A)
    text = s.heard ++ x ∷ []

    by : (b : Bool) (o : Option (CompleteExchange A)) → complete_exchange group s.members s.heard ≡ o → (not b || is_some (complete_exchange group s.members text)) ≡ false
        → (not b || is_some o) ≡ false
    by true None e f = refl
    by true (Some w) e f =
        absurd (let y = sym f ∙ ap is_some (complete_exchange-front group s.members s.heard text w e (x ∷ [], refl)) in cc y)
    by false o e f = absurd (cc f)

-- ---- the known log

pub known-epochs : {A : Type 0} {group : Group} {epochs : List (Epoch A)} {held : HeldLog A} {ring : RingId} {stage : ExchangeStage A} {mark : ℕ} {watermarks : List LogWatermark}
    → IsReplicationKept group epochs held ring stage mark watermarks → IsKnownLog (known_log_of group epochs)
known-epochs {group} k =
    let p = epoch-parts group k.epoch k.older (ap (is_known_log_sound group) (sym k.parts) ∙ k.sound) in
    subst (λ l. IsKnownLog (known_log_of group l)) (sym k.parts) (known-epoch group k.epoch k.older k.known p.keeps k.within)

-- the log isn't too long
pub length-kept : {A : Type 0} {group : Group} {epochs : List (Epoch A)} {held : HeldLog A} {ring : RingId} {stage : ExchangeStage A} {mark : ℕ} {watermarks : List LogWatermark}
    → IsReplicationKept group epochs held ring stage mark watermarks → is_log_length (log_length held.log) ≡ true
length-kept {group} {epochs} k =
    let known = known-epochs k in
    let K = known_log_of group epochs in
    let long : log_length (retained_log K) ≡ known_log_length K =
    length-with group 0 (record { seq = 0; rep = 0 }) K K K.trimmed K.committed known.low (omega (arith, known.high, known.within)) in
    ap (λ (l : Log _). is_log_length (log_length l)) k.logged ∙ ap is_log_length long ∙ kept-short group epochs k.sound

-- ---- a message

module _ {A : Type 0} (group : Group) (epochs : List (Epoch A)) (held : HeldLog A) (ring : RingId) (stage : ExchangeStage A) (mark : ℕ) (watermarks : List LogWatermark)
    (x : Message A) (delivery_context : DeliveryContext) (pending : List (PendingTicket A)) where
  abbrev the_moment : StepContext A
  the_moment =
      record {
        group = group;
        me = delivery_context.me;
        running = None;
        pending = pending;
        committed = delivery_context.committed;
        trimmed = held.log.trimmed;
        snapshot = held.snapshot;
      }

  heard : (k : IsReplicationKept group epochs held ring stage mark watermarks) → delivery_context.ring ≡ ring
      → Hears group k.epoch k.older x held (message_effect delivery_context pending held stage x)
      (due_sends_on_message the_moment delivery_context.runs (k.epoch ∷ k.older) x (with_message k.epoch x ∷ k.older))
  heard k same =
      epochs_with_message-is group k.epoch k.older x delivery_context pending held stage k.stands (record {
        sound = ap (is_known_log_sound group) (sym k.parts) ∙ k.sound;
        logged = k.logged ∙ ap (λ l. retained_log (known_log_of group l)) k.parts;
        known = k.known;
        within = k.within;
        frozen = λ p none. k.frozen (ap (is_closed group) k.parts ∙ closed-parts group k.epoch k.older p none);
      }) (same ∙ k.in_ring)

  pub sound-epochs_with_message : IsReplicationKept group epochs held ring stage mark watermarks → delivery_context.ring ≡ ring
      → (message_effect delivery_context pending held stage x).fits ≡ is_known_log_sound group (epochs_with_message x epochs)
  sound-epochs_with_message k same = (heard k same).sound ∙ ap (λ l. is_known_log_sound group (epochs_with_message x l)) (sym k.parts)

  pub due-epochs_with_message : IsReplicationKept group epochs held ring stage mark watermarks → delivery_context.ring ≡ ring → (message_effect delivery_context pending held stage x).fits ≡ true
      → (message_effect delivery_context pending held stage x).due ≡ due_sends_on_message the_moment delivery_context.runs epochs x (epochs_with_message x epochs)
  due-epochs_with_message k same t =
      (heard k same).due t ∙ ap (λ (l : List (Epoch A)). due_sends_on_message the_moment delivery_context.runs l x (epochs_with_message x l)) (sym k.parts)

  pub kept-epochs_with_message : (k : IsReplicationKept group epochs held ring stage mark watermarks) → delivery_context.ring ≡ ring → (message_effect delivery_context pending held stage x).fits ≡ true
      → (stage' : ExchangeStage A) (held' : HeldLog A) (places : ℕ) → stage' ≡ (message_effect delivery_context pending held stage x).stage
      → held' ≡ (message_effect delivery_context pending held stage x).held → places ≡ watermark_at stage' held'.log
      → IsReplicationKept group (epochs_with_message x epochs)
      (record held' { log = committed_upto held'.log (covered_places mark 0 (watermarks ++ record { number = x.number; places = places } ∷ [])) }) ring stage' mark
      (watermarks_above mark (watermarks ++ record { number = x.number; places = places } ∷ []))
      × IsHeldLogContinued held (record held' { log = committed_upto held'.log (covered_places mark 0 (watermarks ++ record { number = x.number; places = places } ∷ [])) })
      (known_log_of group epochs) (known_log_of group (epochs_with_message x epochs))
  kept-epochs_with_message k same t stage' held' places stage_is held_is places_is =
      let s = k.epoch in
      let older = k.older in
      let s' = with_message s x in
      let known = known_log_of group older in
      let h = heard k same in
      let T = message_effect delivery_context pending held stage x in
      let front = messages_upto s.mark s.heard in
      let xs = messages_after s.mark s.heard ++ x ∷ [] in
      let all : front ++ xs ≡ s'.heard = sym (append_assoc front (messages_after s.mark s.heard) (x ∷ [])) ∙ ap (λ l. l ++ x ∷ []) (upto-messages_after s.mark s.heard) in
      let is = covers-upto s.mark s.mark s.heard (omega arith) in
      let reach_is : places ≡ watermark_of group s.members s.ring known ((front ++ messages_after s.mark s.heard) ++ x ∷ []) =
      places_is ∙ ap (λ (g : ExchangeStage A). watermark_at g held'.log) stage_is ∙ ap (λ (y : HeldLog A). watermark_at T.stage y.log) held_is ∙ h.reach t
      ∙ ap (λ l. watermark_of group s.members s.ring known (l ++ x ∷ [])) (sym (upto-messages_after s.mark s.heard)) in
      let more : watermarks ++ record { number = x.number; places = places } ∷ [] ≡ watermarks_from group s.members s.ring known front xs =
      ap (λ l. l ++ record { number = x.number; places = places } ∷ []) k.unsafe
      ∙ ap (λ n. watermarks_from group s.members s.ring known front (messages_after s.mark s.heard) ++ record { number = x.number; places = n } ∷ []) reach_is
      ∙ sym (watermarks-push group s.members s.ring known front (messages_after s.mark s.heard) x) in
      let sound' : is_known_log_sound group (s' ∷ older) ≡ true = sym h.sound ∙ t in
      let parts' = epoch-parts group s' older sound' in
      let grows : IsEpochExtended s s' =
      record {
        ring = refl;
        members = refl;
        heard = (x ∷ [], refl);
        mark = omega arith;
        sent = ([], append-nil s.sent);
        trimmed = omega arith;
        front = λ w e. refl;
      } in
      let within' : s'.trimmed ≤ (known_log_of group (s' ∷ older)).committed =
      (let l = known-longer_list group s s' older grows in omega (arith, l, k.within)) in
      let known' = known-epoch group s' older k.known parts'.keeps within' in
      let o' = complete_exchange group s.members s'.heard in
      let p' = complete_exchange group s.members (messages_upto s.mark s'.heard) in
      let b' = kept_base s.ring known o' in
      let low : b'.from ≤ max s.trimmed b'.trimmed = omega (
        arith,
        known'.low,
        from-by s.ring known s.trimmed o' p',
        trimmed-by s.ring known s.trimmed o' p',
      ) in
      let high : max s.trimmed b'.trimmed ≤ known_log_length b' = omega (
        arith,
        known'.high,
        known'.within,
        trimmed-by s.ring known s.trimmed o' p',
        length-by s.ring known s.trimmed o' p',
      ) in
      let rs = watermarks ++ record { number = x.number; places = places } ∷ [] in
      let log_now : committed_upto held'.log (covered_places mark 0 rs) ≡ retained_log (known_log_of group (s' ∷ older)) =
      ap (λ n. committed_upto held'.log (covered_places n 0 rs)) k.safe
      ∙ ap (λ l. committed_upto held'.log (covered_places s.mark 0 l)) more
      ∙ settled group s' older front xs held'.log all is low high (ap (λ (y : HeldLog A). y.log) held_is ∙ h.log t) in
      let now : HeldLog A = record held' { log = committed_upto held'.log (covered_places mark 0 rs) } in
      let node_epochs : epochs_with_message x epochs ≡ s' ∷ older = ap (epochs_with_message x) k.parts in
      let onward : MayRestore held now (known_log_of group epochs) (known_log_of group (epochs_with_message x epochs)) =
      with-log held held' now.log (known_log_of group epochs) (known_log_of group (epochs_with_message x epochs))
      (may-as held T.held held' (known_log_of group (s ∷ older)) (known_log_of group epochs) (known_log_of group (s' ∷ older)) (known_log_of group (epochs_with_message x epochs)) (h.onward t)
      held_is (ap (known_log_of group) k.parts) (ap (known_log_of group) node_epochs)) in (
        record {
          epoch = s';
          older = older;
          parts = node_epochs;
          in_ring = k.in_ring;
          stands = stage_is ∙ h.stage t;
          safe = k.safe;
          unsafe = ap (λ n. watermarks_above n rs) k.safe ∙ ap (watermarks_above s.mark) more ∙ watermarks_above-settled group s' known front xs all is;
          logged = log_now ∙ ap (λ l. retained_log (known_log_of group l)) (sym node_epochs);
          known = k.known;
          within = within';
          frozen = λ f. k.frozen (ap (is_closed group) k.parts ∙ closed-heard group s older x (ap (is_closed group) (sym node_epochs) ∙ f));
          restored = restored-on held now (known_log_of group epochs) (known_log_of group (epochs_with_message x epochs)) onward k.restored;
          sound = ap (is_known_log_sound group) node_epochs ∙ sound';
        },
        record { log = ap (λ (l : Log A). l.trimmed) (log_now ∙ ap (λ l. retained_log (known_log_of group l)) (sym node_epochs)); held = onward },
      )

-- ---- a safe mark

pub kept-epochs_with_mark : {A : Type 0} (group : Group) (epochs : List (Epoch A)) (held : HeldLog A) (ring : RingId) (stage : ExchangeStage A) (mark : ℕ)
    (watermarks : List LogWatermark) (n : ℕ)
    → IsReplicationKept group epochs held ring stage mark watermarks → is_risen epochs n ≡ true
    → IsReplicationKept group (epochs_with_mark n epochs) (record held { log = committed_upto held.log (covered_places n 0 watermarks) }) ring stage n (watermarks_above n watermarks)
    × IsHeldLogContinued held (record held { log = committed_upto held.log (covered_places n 0 watermarks) }) (known_log_of group epochs) (known_log_of group (epochs_with_mark n epochs))
kept-epochs_with_mark {A} group epochs held ring stage mark watermarks n k risen =
    let s = k.epoch in
    let older = k.older in
    let s' : Epoch A = record s { mark = n } in
    let known = known_log_of group older in
    let front = messages_upto s.mark s.heard in
    let xs = messages_after s.mark s.heard in
    let le : s.mark ≤ n = leb-true s.mark n (ap (λ (l : List (Epoch A)). is_risen l n) (sym k.parts) ∙ risen) in
    let all = upto-messages_after s.mark s.heard in
    let is = covers-upto s.mark n s.heard le in
    let o = complete_exchange group s.members s.heard in
    let p = complete_exchange group s.members front in
    let p' = complete_exchange group s.members (messages_upto n s.heard) in
    let b = kept_base s.ring known o in
    let logged : held.log ≡ log_with b (max s.trimmed b.trimmed) (max b.committed (watermark_of group s.members s.ring known front)) =
    k.logged ∙ ap (λ l. retained_log (known_log_of group l)) k.parts
    ∙ kept-log group s.members s.ring known s.trimmed s.heard front o p refl refl (upto-front s.mark s.heard) in
    let grows : IsEpochExtended s s' =
    record {
      ring = refl;
      members = refl;
      heard = ([], append-nil s.heard);
      mark = le;
      sent = ([], append-nil s.sent);
      trimmed = omega arith;
      front = λ w e. refl;
    } in
    let within' : s'.trimmed ≤ (known_log_of group (s' ∷ older)).committed =
    (let l = known-longer_list group s s' older grows in omega (arith, l, k.within)) in
    let sound = ap (is_known_log_sound group) (sym k.parts) ∙ k.sound in
    let was = known-epoch group s older k.known (epoch-parts group s older sound).keeps k.within in
    let low : b.from ≤ max s.trimmed b.trimmed = omega (
      arith,
      was.low,
      from-by s.ring known s.trimmed o p,
      trimmed-by s.ring known s.trimmed o p,
    ) in
    let high : max s.trimmed b.trimmed ≤ known_log_length b = omega (
      arith,
      was.high,
      was.within,
      trimmed-by s.ring known s.trimmed o p,
      length-by s.ring known s.trimmed o p,
    ) in
    let node_epochs : epochs_with_mark n epochs ≡ s' ∷ older = ap (epochs_with_mark n) k.parts in
    let log_now : committed_upto held.log (covered_places n 0 watermarks) ≡ retained_log (known_log_of group (epochs_with_mark n epochs)) =
    ap (λ rs. committed_upto held.log (covered_places n 0 rs)) k.unsafe ∙ settled group s' older front xs held.log all is low high logged
    ∙ ap (λ l. retained_log (known_log_of group l)) (sym node_epochs) in
    let now : HeldLog A = record held { log = committed_upto held.log (covered_places n 0 watermarks) } in
    let onward : MayRestore held now (known_log_of group epochs) (known_log_of group (epochs_with_mark n epochs)) =
    may-as held now now (known_log_of group (s ∷ older)) (known_log_of group epochs) (known_log_of group (s' ∷ older)) (known_log_of group (epochs_with_mark n epochs))
    (inl (record {
      before = refl;
      snapshot = refl;
      known = record {
        from = from-by s.ring known s.trimmed o p' ∙ sym (from-by s.ring known s.trimmed o p);
        trimmed = trimmed-by s.ring known s.trimmed o p' ∙ sym (trimmed-by s.ring known s.trimmed o p);
        bytes = bytes-by s.ring known s.trimmed o p' ∙ sym (bytes-by s.ring known s.trimmed o p);
        committed = known-longer_list group s s' older grows;
        places = ap (take ((known_log_of group (s ∷ older)).committed - (known_log_of group (s ∷ older)).from))
            (calls-by s.ring known s.trimmed o p' ∙ sym (calls-by s.ring known s.trimmed o p));
      };
    })) refl (ap (known_log_of group) k.parts) (ap (known_log_of group) node_epochs) in (
      record {
        epoch = s';
        older = older;
        parts = node_epochs;
        in_ring = k.in_ring;
        stands = k.stands;
        safe = refl;
        unsafe = ap (watermarks_above n) k.unsafe ∙ watermarks_above-settled group s' known front xs all is;
        logged = log_now;
        known = k.known;
        within = within';
        frozen = λ f. k.frozen (ap (is_closed group) k.parts ∙ sym (ap (is_closed group) node_epochs) ∙ f);
        restored = restored-on held now (known_log_of group epochs) (known_log_of group (epochs_with_mark n epochs)) onward k.restored;
        sound = history_with_mark-sound group n epochs ∙ k.sound;
      },
      record { log = ap (λ (l : Log A). l.trimmed) log_now; held = onward },
    )

-- ---- a new ring

pub kept-enters : {A : Type 0} (group : Group) (older : List (Epoch A)) (held : HeldLog A) (ring : RingId) (members : ℕ) → is_known_log_sound group older ≡ true
    → IsKnownLog (known_log_of group older) → held.log ≡ retained_log (known_log_of group older) → IsRestoredSnapshotHeld (known_log_of group older) held.snapshot
    → IsReplicationKept group (epoch_opening ring members ∷ older) held ring (stage_in group members []) 0 []
    × IsHeldLogContinued held held (known_log_of group older) (known_log_of group (epoch_opening ring members ∷ older))
kept-enters {A} group older held ring members t known is restored =
    let none = complete_exchange-nothing {A = A} group members in
    let k = known_log_of group older in
    let low : max 0 k.trimmed ≡ k.trimmed = omega arith in
    let same : known_log_of group (epoch_opening ring members ∷ older) ≡ k =
    ap (λ (o : Option (CompleteExchange A)). dropped_by 0 (known_log_after_epoch ring k o o)) none
    ∙ ap (λ n. record k { trimmed = n }) low in
    let onward : MayRestore held held k (known_log_of group (epoch_opening ring members ∷ older)) =
    subst (λ (y : KnownLog A). MayRestore held held k y) (sym same) (inl (record { before = refl; snapshot = refl; known = known-self k })) in
    let logged : held.log ≡ retained_log (known_log_of group (epoch_opening ring members ∷ older)) = is ∙ ap retained_log (sym same) in (
      record {
        epoch = epoch_opening ring members;
        older = older;
        parts = refl;
        in_ring = refl;
        stands = refl;
        safe = refl;
        unsafe = refl;
        logged = logged;
        known = known;
        within = omega arith;
        frozen = λ f. refl;
        restored = restored-on held held k (known_log_of group (epoch_opening ring members ∷ older)) onward restored;
        sound = epoch-sound group (epoch_opening ring members) older (record {
          before = t;
          keeps = ap (λ (o : Option (CompleteExchange A)). keeps_kept k ring o) none;
          short = ap (λ (o : Option (CompleteExchange A)). is_log_length (known_log_length (kept_base ring k o))) none ∙ kept-short group older t;
        });
      },
      record { log = ap (λ (l : Log A). l.trimmed) logged; held = onward },
    )

-- ---- payloads handed over

pub kept-epochs_with_sends : {A : Type 0} (group : Group) (epochs : List (Epoch A)) (held : HeldLog A) (ring : RingId) (stage : ExchangeStage A)
    (mark : ℕ) (watermarks : List LogWatermark) (due : List (Payload A))
    → IsReplicationKept group epochs held ring stage mark watermarks → IsReplicationKept group (epochs_with_sends due epochs) held ring stage mark watermarks
kept-epochs_with_sends {A} group epochs held ring stage mark watermarks due k =
    let s' : Epoch A = record k.epoch { sent = k.epoch.sent ++ due } in
    let node_epochs : epochs_with_sends due epochs ≡ s' ∷ k.older = ap (epochs_with_sends due) k.parts in
    let same : known_log_of group (epochs_with_sends due epochs) ≡ known_log_of group epochs = epochs_with_sends-kept group due epochs in
    record {
      epoch = s';
      older = k.older;
      parts = node_epochs;
      in_ring = k.in_ring;
      stands = k.stands;
      safe = k.safe;
      unsafe = k.unsafe;
      logged = k.logged ∙ ap retained_log (sym same);
      known = k.known;
      within = k.within;
      frozen = λ f. k.frozen (ap (is_closed group) k.parts ∙ sym (ap (is_closed group) node_epochs) ∙ f);
      restored = subst (λ (y : KnownLog A). IsRestoredSnapshotHeld y held.snapshot) (sym same) k.restored;
      sound = ap (is_known_log_sound group) node_epochs ∙ ap (is_known_log_sound group) (sym k.parts) ∙ k.sound;
    }

-- ---- places dropped

-- a log that is due to be trimmed has committed places that aren't dropped
pub ripe-more : {A : Type 0} (log : Log A) → is_due_to_trim log ≡ true → log.trimmed < log.committed
ripe-more log t = (let many = leb-true trim_after (log.committed - log.trimmed) t in omega (arith, many))

pub kept-epochs_with_trim : {A : Type 0} (group : Group) (epochs : List (Epoch A)) (held : HeldLog A) (ring : RingId) (stage : ExchangeStage A)
    (mark : ℕ) (watermarks : List LogWatermark) (bytes : List ℕ)
    → IsReplicationKept group epochs held ring stage mark watermarks → is_closed group epochs ≡ true → held.log.trimmed < held.log.committed
    → IsReplicationKept group (epochs_with_trim held.log.committed epochs) (held_log_trimmed held (Some bytes)) ring stage mark watermarks
kept-epochs_with_trim {A} group epochs held ring stage mark watermarks bytes k closed ripe =
    let s = k.epoch in
    let older = k.older in
    let known = known_log_of group older in
    let s' : Epoch A = record s { trimmed = held.log.committed } in
    let o = complete_exchange group s.members s.heard in
    let p = complete_exchange group s.members (messages_upto s.mark s.heard) in
    let sound = epoch-parts group s older (ap (is_known_log_sound group) (sym k.parts) ∙ k.sound) in
    let was = known-epoch group s older k.known sound.keeps k.within in
    let K = known_log_of group (s ∷ older) in
    let now = known_log_of group (s' ∷ older) in
    let same : held.log ≡ retained_log K = k.logged ∙ ap (λ l. retained_log (known_log_of group l)) k.parts in
    let committed : held.log.committed ≡ K.committed = ap (λ (l : Log A). l.committed) same in
    let trimmed : held.log.trimmed ≡ K.trimmed = ap (λ (l : Log A). l.trimmed) same in
    let gone : now.trimmed ≡ K.committed = omega (
      arith,
      committed,
      was.high,
      trimmed-by s.ring known s.trimmed o p,
      trimmed-by s.ring known held.log.committed o p,
    ) in
    let more : (K.trimmed - K.from) + (K.committed - K.trimmed) ≡ K.committed - K.from = omega (arith, was.low, was.high) in
    let calls : drop (K.committed - K.trimmed) (drop (K.trimmed - K.from) K.calls) ≡ drop (K.committed - K.from) K.calls =
    drop-more (K.trimmed - K.from) (K.committed - K.trimmed) K.calls ∙ ap (λ n. drop n K.calls) more in
    let node_epochs : epochs_with_trim held.log.committed epochs ≡ s' ∷ older = ap (epochs_with_trim held.log.committed) k.parts in
    record {
      epoch = s';
      older = older;
      parts = node_epochs;
      in_ring = k.in_ring;
      stands = k.stands;
      safe = k.safe;
      unsafe = k.unsafe;
      logged = ap trimmed_log same
          ∙ ap (λ (cs : List (OneCall A)). record { trimmed = K.committed; calls = cs; committed = K.committed; last = K.last }) calls
          ∙ ap (λ n. record { trimmed = n; calls = drop (n - K.from) K.calls; committed = K.committed; last = K.last }) (sym gone)
          ∙ ap (λ l. retained_log (known_log_of group l)) (sym node_epochs);
      known = k.known;
      within = omega (arith, committed);
      frozen = λ f. absurd (let y = sym (sym (ap (is_closed group) k.parts) ∙ closed) ∙ sym (ap (is_closed group) node_epochs) ∙ f in cc y);
      restored = subst (λ l. IsRestoredSnapshotHeld (known_log_of group l) bytes) (sym node_epochs) (λ low e. absurd (omega (arith, e, gone, committed, trimmed, ripe, was.low)));
      sound = ap (is_known_log_sound group) node_epochs ∙ epoch-sound group s' older (record { before = sound.before; keeps = sound.keeps; short = sound.short });
    }

-- ---- a life that isn't sound never becomes sound again

unsound-epochs_after_event : {A : Type 0} (group : Group) (epochs : List (Epoch A)) (o : Out A) → is_known_log_sound group epochs ≡ false → is_known_log_sound group (epochs_after_event epochs o) ≡ false
unsound-epochs_after_event {A} group epochs o f = by (is_known_log_sound group (epochs_after_event epochs o)) refl
  where
    by : (b : Bool) → is_known_log_sound group (epochs_after_event epochs o) ≡ b → is_known_log_sound group (epochs_after_event epochs o) ≡ false
    by false e = e
    by true e = absurd (let y = sym f ∙ sound-epochs_after_event group epochs o e in cc y)

-- ---- outputs, one after the other

due_sends-push : {A : Type 0} (m : StepContext A) (epochs : List (Epoch A)) (ys : List (Out A)) (o : Out A)
    → due_sends_by m epochs (ys ++ o ∷ []) ≡ due_sends_by m epochs ys ++ due_sends_at m (epochs_after epochs ys) o
due_sends-push m epochs [] o = append-nil (due_sends_at m epochs o)
due_sends-push m epochs (y ∷ ys) o =
    ap (λ l. due_sends_at m epochs y ++ l) (due_sends-push m (epochs_after_event epochs y) ys o)
    ∙ sym (append_assoc (due_sends_at m epochs y) (due_sends_by m (epochs_after_event epochs y) ys) (due_sends_at m (epochs_after (epochs_after_event epochs y) ys) o))

-- due payloads depend on the snapshot that the step uses
heard-same : {A : Type 0} (m : StepContext A) (t : ℕ) (b : List ℕ) (runs : Bool) (epochs : List (Epoch A)) (x : Message A) (after : List (Epoch A))
    → bytes_at (record m { trimmed = t; snapshot = b }) (known_log_of m.group epochs) ≡ bytes_at m (known_log_of m.group epochs)
    → due_sends_on_message (record m { trimmed = t; snapshot = b }) runs epochs x after ≡ due_sends_on_message m runs epochs x after
heard-same m t b runs [] x after e = refl
heard-same {A} m t b runs (s ∷ older) x after e =
    let k = known_log_of m.group (s ∷ older) in
    let old : Exchange A = exchange_after_messages (exchange_opening s.members) s.heard in
    let new : Exchange A = exchange_after_messages (exchange_opening s.members) (s.heard ++ x ∷ []) in
    ap (λ bs. if runs then (if is_primary m.group s.members then due_when_heads_complete m.me bs (retained_log k) old new ++ due_when_complete (due_context m) after old new else [])
    else []) e

due_sends-same : {A : Type 0} (m : StepContext A) (t : ℕ) (b : List ℕ) (epochs : List (Epoch A)) (o : Out A)
    → bytes_at (record m { trimmed = t; snapshot = b }) (known_log_of m.group epochs) ≡ bytes_at m (known_log_of m.group epochs)
    → due_sends_at (record m { trimmed = t; snapshot = b }) epochs o ≡ due_sends_at m epochs o
due_sends-same m t b epochs (Agreed ring k x) e = heard-same m t b (is_running m.running ring) epochs x (epochs_with_message x epochs) e
due_sends-same m t b epochs (Safe ring upto) e = refl
due_sends-same m t b epochs (Regular ring set) e = refl
due_sends-same m t b epochs (Send to frame) e = refl
due_sends-same m t b epochs (Trans old new set) e = refl
due_sends-same m t b epochs (Rest ring k x) e = refl

-- the replication after the outputs so far
pub record IsWalked {A : Type 0} (m : StepContext A) (first : List (Epoch A)) (opening_stage : HeldLog A) (ys : List (Out A)) (consistent : Bool) (epochs : List (Epoch A))
    (held : HeldLog A) (due-before due : List (Payload A)) : Type 0 where
  pub sound : consistent ≡ is_known_log_sound m.group (epochs_after first ys)
  pub node_epochs : consistent ≡ true → epochs ≡ epochs_after first ys
  pub onward : consistent ≡ true → IsHeldLogContinued opening_stage held (known_log_of m.group first) (known_log_of m.group epochs)
  pub history_with_sends : consistent ≡ true → due ≡ due-before ++ due_sends_by m first ys

pub walked-none : {A : Type 0} {m : StepContext A} {first : List (Epoch A)} {opening_stage : HeldLog A} {consistent : Bool} {due : List (Payload A)}
    → consistent ≡ true → is_known_log_sound m.group first ≡ true → opening_stage.log.trimmed ≡ (known_log_of m.group first).trimmed
    → IsWalked m first opening_stage [] consistent first opening_stage due due
walked-none {m} {first} {opening_stage} {due} f t logged =
    record {
      sound = f ∙ sym t;
      node_epochs = λ _. refl;
      onward = λ _. goes_none opening_stage opening_stage (known_log_of m.group first) (known_log_of m.group first) refl refl logged;
      history_with_sends = λ _. sym (append-nil due);
    }

walked-on : {A : Type 0} (m : StepContext A) (first : List (Epoch A)) (opening_stage : HeldLog A) (ys : List (Out A)) (o : Out A) (consistent consistent' : Bool)
    (epochs epochs' : List (Epoch A)) (held held' : HeldLog A) (due-before due due' : List (Payload A))
    → IsWalked m first opening_stage ys consistent epochs held due-before due
    → m.trimmed ≡ (known_log_of m.group first).trimmed → m.snapshot ≡ opening_stage.snapshot
    → consistent' ≡ consistent && is_known_log_sound m.group (epochs_after_event epochs o) → (consistent' ≡ true → epochs' ≡ epochs_after_event epochs o)
    → (consistent' ≡ true → IsHeldLogContinued held held' (known_log_of m.group epochs) (known_log_of m.group epochs'))
    → (consistent' ≡ true → due' ≡ due ++ due_sends_at (record m { trimmed = held.log.trimmed; snapshot = held.snapshot }) epochs o)
    → IsWalked m first opening_stage (ys ++ o ∷ []) consistent' epochs' held' due-before due'
walked-on {A} m first opening_stage ys o false consistent' epochs epochs' held held' due-before due due' w at bytes e node_epochs onward history_with_sends =
    let never : consistent' ≡ true → ⊥ = λ t. (let y = sym e ∙ t in cc y) in
    record {
      sound = e ∙ sym (ap (is_known_log_sound m.group) (through-append first ys (o ∷ [])) ∙ unsound-epochs_after_event m.group (epochs_after first ys) o (sym w.sound));
      node_epochs = λ t. absurd (never t);
      onward = λ t. absurd (never t);
      history_with_sends = λ t. absurd (never t);
    }
walked-on {A} m first opening_stage ys o true consistent' epochs epochs' held held' due-before due due' w at bytes e node_epochs onward history_with_sends =
    let was = w.node_epochs refl in
    let now : epochs_after first (ys ++ o ∷ []) ≡ epochs_after_event (epochs_after first ys) o = through-append first ys (o ∷ []) in
    let g = w.onward refl in
    let k = known_log_of m.group epochs in
    let mid : StepContext A = record m { trimmed = held.log.trimmed; snapshot = held.snapshot } in
    let same : bytes_at mid k ≡ bytes_at m k =
    bytes-are mid held held k k g.log refl (goes_none held held k k refl refl g.log)
    ∙ sym (bytes-are m opening_stage held (known_log_of m.group first) k at bytes g) in
    record {
      sound = e ∙ ap (λ l. is_known_log_sound m.group (epochs_after_event l o)) was ∙ ap (is_known_log_sound m.group) (sym now);
      node_epochs = λ t. node_epochs t ∙ ap (λ l. epochs_after_event l o) was ∙ sym now;
      onward = λ t. goes-trans opening_stage held held' (known_log_of m.group first) k (known_log_of m.group epochs') g (onward t);
      history_with_sends = λ t. history_with_sends t ∙ ap (λ l. due ++ l) (due_sends-same m held.log.trimmed held.snapshot epochs o same)
          ∙ ap (λ l. due ++ due_sends_at m l o) was ∙ ap (λ l. l ++ due_sends_at m (epochs_after first ys) o) (w.history_with_sends refl)
          ∙ append_assoc due-before (due_sends_by m first ys) (due_sends_at m (epochs_after first ys) o) ∙ ap (λ l. due-before ++ l) (sym (due_sends-push m first ys o));
    }

-- one more output, in a context of the same node
pub walked-more : {A : Type 0} {m : StepContext A} {first : List (Epoch A)} {opening_stage : HeldLog A} {ys : List (Out A)} {consistent consistent' : Bool} {epochs epochs' : List (Epoch A)}
    {held held' : HeldLog A} {due-before due due' : List (Payload A)} {group group' : Group} {me : ℕ} (o : Out A)
    → IsWalked m first opening_stage ys consistent epochs held due-before due → group ≡ m.group → group' ≡ group → me ≡ m.me
    → m.trimmed ≡ (known_log_of m.group first).trimmed → m.snapshot ≡ opening_stage.snapshot
    → consistent' ≡ consistent && is_known_log_sound group (epochs_after_event epochs o) → (consistent' ≡ true → epochs' ≡ epochs_after_event epochs o)
    → (consistent' ≡ true → IsHeldLogContinued held held' (known_log_of group epochs) (known_log_of group' epochs'))
    → (consistent' ≡ true → due' ≡ due ++ due_sends_at (record m { group = group; me = me; trimmed = held.log.trimmed; snapshot = held.snapshot }) epochs o)
    → IsWalked m first opening_stage (ys ++ o ∷ []) consistent' epochs' held' due-before due'
walked-more {A} {m} {first} {opening_stage} {ys} {consistent} {consistent'} {epochs} {epochs'} {held} {held'} {due-before} {due} {due'} {group} {me} o w
    same same' at there bytes e node_epochs onward history_with_sends =
    let by_group : Group → StepContext A = λ x. record m { group = x; me = me; trimmed = held.log.trimmed; snapshot = held.snapshot } in
    let by_me : ℕ → StepContext A = λ x. record m { me = x; trimmed = held.log.trimmed; snapshot = held.snapshot } in
    walked-on m first opening_stage ys o consistent consistent' epochs epochs' held held' due-before due due' w there bytes
    (e ∙ ap (λ gr. consistent && is_known_log_sound gr (epochs_after_event epochs o)) same) node_epochs
    (λ t. subst (λ gr. IsHeldLogContinued held held' (known_log_of gr epochs) (known_log_of m.group epochs')) same
    (subst (λ gr. IsHeldLogContinued held held' (known_log_of group epochs) (known_log_of gr epochs')) (same' ∙ same) (onward t)))
    (λ t. history_with_sends t ∙ ap (λ x. due ++ due_sends_at x epochs o) (ap by_group same ∙ ap by_me at))

-- after all outputs
pub walked-all : {A : Type 0} {m : StepContext A} {first : List (Epoch A)} {opening_stage : HeldLog A} {ys outs : List (Out A)} {consistent : Bool} {epochs : List (Epoch A)}
    {held : HeldLog A} {due-before due : List (Payload A)}
    → IsWalked m first opening_stage ys consistent epochs held due-before due → ys ≡ outs
    → IsWalked m first opening_stage outs consistent epochs held due-before due
walked-all {m} {first} {opening_stage} {consistent} {epochs} {held} {due-before} {due} w all =
    subst (λ l. IsWalked m first opening_stage l consistent epochs held due-before due) all w

-- no mark falls at any of them
rises-at : {A : Type 0} (epochs : List (Epoch A)) (outs : List (Out A)) (k : ℕ) (o : Out A) → rises epochs outs ≡ true → slice_get outs k ≡ Some o
    → rises_at (epochs_after epochs (take k outs)) o ≡ true
rises-at epochs [] k o t e = absurd (cc e)
rises-at epochs (y ∷ ys) zero o t e =
    let same : y ≡ o = cc e in
    ap (rises_at epochs) (sym same) ∙ (and_parts (rises_at epochs y) (rises (epochs_after_event epochs y) ys) t).0
rises-at epochs (y ∷ ys) (suc k) o t e = rises-at (epochs_after_event epochs y) ys k o (and_parts (rises_at epochs y) (rises (epochs_after_event epochs y) ys) t).1 e

pub rises-next : {A : Type 0} (first : List (Epoch A)) (outs : List (Out A)) (k : ℕ) {epochs : List (Epoch A)} {o : Out A}
    → rises first outs ≡ true → slice_get outs k ≡ Some o → epochs ≡ epochs_after first (take k outs) → rises_at epochs o ≡ true
rises-next first outs k {o} t stands node_epochs = ap (λ l. rises_at l o) node_epochs ∙ rises-at first outs k o t stands
