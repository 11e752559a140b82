-- The values that a node stores of its newest ring as its core gives outputs, and the effect of a message on them.
-- Rules: The replicated log 2 to 12 and 20
use Rattle.std.specs.Prelude.{◌≡◌, ℕ, ◌+◌, ◌≤◌, Bool, true, false, ◌&&◌, nat_le, nat_lt, if◌then◌else◌, List, [], ◌∷◌, ◌++◌}
use Rattle.std.specs.Prelude.{◌<◌, ◌-◌, ◌⊎◌, take, length, is_some, Option, Some, None, unwrap_or}
use Rattle.ring_base.specs.Group.{Group, is_primary}
use Rattle.ring_base.specs.Rings.{same_ring}
use Rattle.ring_base.specs.declared.ring_id.RingId.{RingId}
use Rattle.ring_payload.specs.PayloadKinds.{calls_of}
use Rattle.ring_payload.specs.declared.call.Call.{Call as OneCall}
use Rattle.ring_payload.specs.declared.content.Payload.{Payload}
use Rattle.ring_payload.specs.declared.content.Payload.TheVariants.{Call}
use Rattle.ring_wire.specs.declared.message.Message.{Message}
use Rattle.ring_node_spec.specs.Outs.{Out}
use Rattle.ring_node_spec.specs.OutVariants.{Send, Agreed, Safe, Trans, Rest, Regular}
use Rattle.ring_log.specs.declared.base.Base.{Base}
use Rattle.ring_log.specs.declared.wanted.Wanted.{Wanted}
use Rattle.ring_log.specs.Exchanges.{Exchange, exchange_opening, wanted, heard, base_at, exchange_drained}
use Rattle.ring_log.specs.Logs.{Log, log_opening, log_length, appended, restores, restored_log, joined_log, trimmed_log, is_adoptable, is_log_length}
use Rattle.ring_log.specs.Epochs.{Epoch, history_opening_of, epochs_with_trim}
use Rattle.ring_log.specs.EpochHistories.{CompleteExchange, complete_exchange_from, exchange_after_messages, complete_exchange, messages_upto}
use Rattle.ring_log.specs.KnownLog.{KnownLog, IsKnownLog, adopts, watermark_by, known_log_of, retained_log, is_known_log_sound}
use Rattle.ring_session.specs.declared.pending_ticket.PendingTicket.{PendingTicket}
use Rattle.ring_node_spec.specs.DueSends.{DueContext, owner_due, calls_not_in, uncommitted_places, due_on_message, due_on_output, due_on_outputs}
use Rattle.ring_node_spec.specs.EpochHistories.{epochs_after_event}
use Rattle.ring_node_spec.specs.Nodes.{is_closed}
use Rattle.ring_replication.specs.declared.delivery_context.DeliveryContext.{DeliveryContext}
use Rattle.ring_replication.specs.declared.log_watermark.LogWatermark.{LogWatermark}
use Rattle.ring_replication.specs.declared.exchange_stage.ExchangeStage.{ExchangeStage}
use Rattle.ring_replication.specs.declared.exchange_stage.ExchangeStage.TheVariants.{NotPrimary, Exchanging, Adopted}

-- The stage of the newest ring's exchange, from the messages received there

-- the stage for a complete exchange, if there is one, and for the exchange so far
abbrev pub stage_by_exchange : {A : Type 0} → Option (CompleteExchange A) → Exchange A → ExchangeStage A
stage_by_exchange None e = Exchanging e
stage_by_exchange (Some w) e = Adopted

-- the stage in a ring of these members after these messages
abbrev pub stage_in : {A : Type 0} → Group → ℕ → List (Message A) → ExchangeStage A
stage_in group members text = if is_primary group members then stage_by_exchange (complete_exchange_from (exchange_opening members) text) (exchange_after_messages (exchange_opening members) text) else NotPrimary

-- The length of a ring's log after these messages, given the known log before the ring: 0 before the exchange is complete

-- the length of the log, given the ring's complete exchange, if there is one
abbrev pub reached_places : {A : Type 0} → RingId → KnownLog A → Option (CompleteExchange A) → ℕ
reached_places ring k None = 0
reached_places ring k (Some w) = watermark_by (adopts k ring w) (Some w)

-- the length of the log after these messages in a ring of these members; 0 if they aren't primary
abbrev pub watermark_of : {A : Type 0} → Group → ℕ → RingId → KnownLog A → List (Message A) → ℕ
watermark_of group members ring k text = reached_places ring k (complete_exchange group members text)

-- the watermark of each message of the list, given the messages before the list
abbrev pub watermarks_from : {A : Type 0} → Group → ℕ → RingId → KnownLog A → List (Message A) → List (Message A) → List LogWatermark
watermarks_from group members ring k front [] = []
watermarks_from group members ring k front (x ∷ xs) =
    record { number = x.number; places = watermark_of group members ring k (front ++ x ∷ []) } ∷ watermarks_from group members ring k (front ++ x ∷ []) xs

-- the messages after a mark
abbrev pub messages_after : {A : Type 0} → ℕ → List (Message A) → List (Message A)
messages_after mark [] = []
messages_after mark (x ∷ xs) = if nat_le x.number mark then messages_after mark xs else x ∷ xs

-- the watermarks that a mark doesn't cover; they are in the order of their numbers
abbrev pub watermarks_above : ℕ → List LogWatermark → List LogWatermark
watermarks_above mark [] = []
watermarks_above mark (r ∷ rest) = if nat_le r.number mark then watermarks_above mark rest else r ∷ rest

-- the places of the last watermark that a mark covers, or `places` if it covers none
abbrev pub covered_places : ℕ → ℕ → List LogWatermark → ℕ
covered_places mark places [] = places
covered_places mark places (r ∷ rest) = if nat_le r.number mark then covered_places mark r.places rest else places

-- The stored log

-- the log; the log at the end of the last step, if a snapshot was restored since; and the bytes of the snapshot of the dropped
-- places
pub record HeldLog (A : Type 0) : Type 0 where
  pub log : Log A
  pub before : Option (Log A)
  pub snapshot : List ℕ

-- the stored log at the opening: the log is empty, and there is no snapshot
abbrev pub empty_held_history : {A : Type 0} → HeldLog A
empty_held_history = record { log = log_opening; before = None; snapshot = [] }

-- the log whose committed places are those at the end of the last step, if a snapshot was restored since; otherwise the
-- log
abbrev pub reported_log : {A : Type 0} → HeldLog A → Log A
reported_log h = unwrap_or h.before h.log

-- the stored log after a restore whose result is `log`
abbrev pub held_log_restored : {A : Type 0} → HeldLog A → Log A → Option (List ℕ) → HeldLog A
held_log_restored h log snapshot = record { log = log; before = Some (reported_log h); snapshot = unwrap_or snapshot h.snapshot }

-- the stored log after a ring's base is adopted
abbrev pub held_log_adopted : {A : Type 0} → HeldLog A → RingId → Base A → HeldLog A
held_log_adopted h ring base =
    if restores h.log base then held_log_restored h (restored_log h.log ring base) base.snapshot else record h { log = joined_log h.log ring base }

-- the stored log after the committed places are dropped, if their snapshot is given
abbrev pub held_log_trimmed : {A : Type 0} → HeldLog A → Option (List ℕ) → HeldLog A
held_log_trimmed h None = h
held_log_trimmed h (Some bytes) = record h { log = trimmed_log h.log; snapshot = bytes }

-- A node's replication: its epochs, the stored log that results from them, and whether that is sound

-- a replication, as contracts see it
pub record Replication (A : Type 0) : Type 0 where
  pub group : Group
  pub me : ℕ
  pub epochs : List (Epoch A)
  pub held : HeldLog A
  pub consistent : Bool

-- the replication of processor `me` of the group at the opening
abbrev pub replication_opening : {A : Type 0} → Group → ℕ → Replication A
replication_opening group me = record { group = group; me = me; epochs = history_opening_of me; held = empty_held_history; consistent = true }

-- the replication after the committed places are dropped, in the epochs too, if their snapshot is given
abbrev pub replication_trimmed : {A : Type 0} → Replication A → Option (List ℕ) → Replication A
replication_trimmed c None = c
replication_trimmed c (Some bytes) = record c { epochs = epochs_with_trim c.held.log.committed c.epochs; held = held_log_trimmed c.held (Some bytes) }

-- the snapshot stored is the one restored last, if the node dropped no place since
abbrev pub IsRestoredSnapshotHeld : {A : Type 0} → KnownLog A → List ℕ → Type 0
IsRestoredSnapshotHeld k snapshot = 1 ≤ k.from → k.trimmed ≡ k.from → snapshot ≡ k.snapshot

-- the known log and a later one without a restore between: the dropped places are the same, and the committed ones stay
pub record IsKnownLogExtended {A : Type 0} (k now : KnownLog A) : Type 0 where
  pub from : now.from ≡ k.from
  pub trimmed : now.trimmed ≡ k.trimmed
  pub bytes : now.snapshot ≡ k.snapshot
  pub committed : k.committed ≤ now.committed
  pub places : take (k.committed - k.from) now.calls ≡ take (k.committed - k.from) k.calls

-- a part of a step that restores nothing, given the known logs before and after it
pub record KeepsDropped {A : Type 0} (old new : HeldLog A) (k now : KnownLog A) : Type 0 where
  pub before : new.before ≡ old.before
  pub snapshot : new.snapshot ≡ old.snapshot
  pub known : IsKnownLogExtended k now

-- a part of a step that restores a snapshot, of more places than were dropped and committed
pub record RestoresMore {A : Type 0} (new : HeldLog A) (k now : KnownLog A) : Type 0 where
  pub before : is_some new.before ≡ true
  pub snapshot : new.snapshot ≡ now.snapshot
  pub trimmed : k.trimmed < now.trimmed
  pub from : now.trimmed ≡ now.from
  pub past : k.committed < now.from

-- a part of a step that restores a snapshot or doesn't
abbrev pub MayRestore : {A : Type 0} → HeldLog A → HeldLog A → KnownLog A → KnownLog A → Type 0
MayRestore old new k now = KeepsDropped old new k now ⊎ RestoresMore new k now

-- the stored log after a part of a step; its trimmed length is that of the known log
pub record IsHeldLogContinued {A : Type 0} (old new : HeldLog A) (k now : KnownLog A) : Type 0 where
  pub log : new.log.trimmed ≡ now.trimmed
  pub held : MayRestore old new k now

-- the stored values agree with sound epochs
pub record IsReplicationKept {A : Type 0} (group : Group) (epochs : List (Epoch A)) (held : HeldLog A) (ring : RingId) (stage : ExchangeStage A)
    (mark : ℕ) (watermarks : List LogWatermark) : Type 0 where
  pub epoch : Epoch A
  pub older : List (Epoch A)
  pub parts : epochs ≡ epoch ∷ older
  pub in_ring : ring ≡ epoch.ring
  pub stands : stage ≡ stage_in group epoch.members epoch.heard
  pub safe : mark ≡ epoch.mark
  pub unsafe : watermarks ≡ watermarks_from group epoch.members epoch.ring (known_log_of group older) (messages_upto epoch.mark epoch.heard) (messages_after epoch.mark epoch.heard)
  pub logged : held.log ≡ retained_log (known_log_of group epochs)
  pub known : IsKnownLog (known_log_of group older)
  pub within : epoch.trimmed ≤ (known_log_of group (epoch ∷ older)).committed
  -- no place is dropped in a ring before the ring is adopted
  pub frozen : is_closed group epochs ≡ false → epoch.trimmed ≡ 0
  pub restored : IsRestoredSnapshotHeld (known_log_of group epochs) held.snapshot
  pub sound : is_known_log_sound group epochs ≡ true

-- sound epochs in which only committed places were dropped, none before adoption: the facts of `IsReplicationKept`
-- that concern only the epochs
pub record HasSoundEpochs {A : Type 0} (group : Group) (epochs : List (Epoch A)) : Type 0 where
  pub epoch : Epoch A
  pub older : List (Epoch A)
  pub parts : epochs ≡ epoch ∷ older
  pub known : IsKnownLog (known_log_of group older)
  pub within : epoch.trimmed ≤ (known_log_of group (epoch ∷ older)).committed
  pub frozen : is_closed group epochs ≡ false → epoch.trimmed ≡ 0
  pub sound : is_known_log_sound group epochs ≡ true

-- the stored values agree with the epochs while the replication is consistent; nothing is said of an inconsistent one
abbrev pub IsReplicationConsistent : {A : Type 0} → Group → List (Epoch A) → Bool → HeldLog A → RingId → ExchangeStage A → ℕ → List LogWatermark → Type 0
IsReplicationConsistent group epochs consistent held ring stage mark watermarks = consistent ≡ true → IsReplicationKept group epochs held ring stage mark watermarks

-- The effect of a message

-- the calls of the unanswered tickets that aren't at these places
abbrev pub calls_to_resend : {A : Type 0} → List (PendingTicket A) → List (OneCall A) → List (Payload A)
calls_to_resend {A} = calls_not_in (λ (p : PendingTicket A). p.call)

-- due of the owner at the message that makes something wanted
abbrev pub owner_asked : {A : Type 0} → ℕ → HeldLog A → Option Wanted → Option Wanted → List (Payload A)
owner_asked me h None new = owner_due me h.snapshot h.log new
owner_asked me h (Some w) new = []

-- the payloads, if the ring runs; otherwise none
abbrev pub if_runs : {A : Type 0} → Bool → List (Payload A) → List (Payload A)
if_runs runs due = if runs then due else []

-- the stage after the message, whether the log stays valid, the stored log, and the payloads due
pub record MessageEffect (A : Type 0) : Type 0 where
  pub stage : ExchangeStage A
  pub fits : Bool
  pub held : HeldLog A
  pub due : List (Payload A)

-- the base may be adopted, if there is one
abbrev pub fits_if : {A : Type 0} → Log A → Option (Base A) → Bool
fits_if log None = true
fits_if log (Some base) = is_adoptable log base

-- the stored log after the base is adopted, if there is one
abbrev pub held_if : {A : Type 0} → DeliveryContext → HeldLog A → Option (Base A) → HeldLog A
held_if delivery_context h None = h
held_if delivery_context h (Some base) = held_log_adopted h delivery_context.ring base

-- the calls due at the adoption, if there is a base and the ring runs
abbrev pub calls_if : {A : Type 0} → DeliveryContext → List (PendingTicket A) → HeldLog A → Option (Base A) → List (Payload A)
calls_if delivery_context pending h None = []
calls_if delivery_context pending h (Some base) =
    if_runs delivery_context.runs (calls_to_resend pending (uncommitted_places delivery_context.committed (held_log_adopted h delivery_context.ring base).log))

-- the stage after the message: without a base the exchange is still open
abbrev pub stage_if : {A : Type 0} → Exchange A → Option (Base A) → ExchangeStage A
stage_if e None = Exchanging e
stage_if e (Some base) = Adopted

-- the effect of a message after which the exchange is e; `places`, the owner's payloads, come before the calls
abbrev pub base_effect : {A : Type 0} → DeliveryContext → List (PendingTicket A) → HeldLog A → Exchange A → List (Payload A) → Option (Base A) → MessageEffect A
base_effect delivery_context pending h e places base =
    record { stage = stage_if e base; fits = fits_if h.log base; held = held_if delivery_context h base; due = places ++ calls_if delivery_context pending h base }

-- the effect of a message on an exchange that isn't complete; payloads are due only if the ring runs
abbrev pub exchanging_effect : {A : Type 0} → DeliveryContext → List (PendingTicket A) → HeldLog A → Exchange A → Message A → MessageEffect A
exchanging_effect delivery_context pending h e x =
    base_effect delivery_context pending h (exchange_drained (heard e x.sender x.payload))
    (if_runs delivery_context.runs (owner_asked delivery_context.me h (wanted e) (wanted (exchange_drained (heard e x.sender x.payload))))) (base_at e x.sender x.payload)

-- the effect of a message of the newest ring, by the stage: once the ring is adopted, the message's calls are appended to the log
abbrev pub message_effect : {A : Type 0} → DeliveryContext → List (PendingTicket A) → HeldLog A → ExchangeStage A → Message A → MessageEffect A
message_effect delivery_context pending h NotPrimary x = record { stage = NotPrimary; fits = true; held = h; due = [] }
message_effect delivery_context pending h (Exchanging e) x = exchanging_effect delivery_context pending h e x
message_effect delivery_context pending h Adopted x =
    record {
      stage = Adopted;
      fits = is_log_length (log_length h.log + length (calls_of x.payload));
      held = record h { log = appended h.log (calls_of x.payload) };
      due = [];
    }

-- the stage after a message, given the exchange and, if it completed, whether the base fits
abbrev pub stage_after : {A : Type 0} → Exchange A → Option Bool → ExchangeStage A
stage_after e None = Exchanging e
stage_after e (Some fits) = Adopted

-- the log's length at this stage: 0 before adoption
abbrev pub watermark_at : {A : Type 0} → ExchangeStage A → Log A → ℕ
watermark_at NotPrimary log = 0
watermark_at (Exchanging e) log = 0
watermark_at Adopted log = log_length log

-- the call, if the ring runs; otherwise nothing
abbrev pub handed_if : {A : Type 0} → Bool → OneCall A → List (Payload A)
handed_if runs c = if runs then Call c ∷ [] else []

-- Due payloads of outputs, and outputs that may occur

-- the ring is the one that runs
abbrev pub is_running : Option RingId → RingId → Bool
is_running None ring = false
is_running (Some running) ring = same_ring running ring

-- the context of a step, from which due payloads are computed: among others the lengths before the step, and the snapshot of the
-- dropped places
pub record StepContext (A : Type 0) : Type 0 where
  pub group : Group
  pub me : ℕ
  pub running : Option RingId
  pub pending : List (PendingTicket A)
  pub committed : ℕ
  pub trimmed : ℕ
  pub snapshot : List ℕ

-- the bytes of the snapshot of the dropped places: those before the step, or those restored since
abbrev pub bytes_at : {A : Type 0} → StepContext A → KnownLog A → List ℕ
bytes_at m k = if nat_lt m.trimmed k.trimmed then k.snapshot else m.snapshot

-- the context of the due payloads of a step
abbrev pub due_context : {A : Type 0} → StepContext A → DueContext A
due_context m =
    record {
      group = m.group;
      me = m.me;
      runs = is_running m.running;
      pending_not_in = calls_to_resend m.pending;
      committed = m.committed;
      snapshot = bytes_at m;
    }

-- due at a message of the newest epoch, if its ring runs
abbrev pub due_sends_on_message : {A : Type 0} → StepContext A → Bool → List (Epoch A) → Message A → List (Epoch A) → List (Payload A)
due_sends_on_message m = due_on_message (due_context m)

-- due at an output, given the epochs before it
abbrev pub due_sends_at : {A : Type 0} → StepContext A → List (Epoch A) → Out A → List (Payload A)
due_sends_at m = due_on_output (due_context m)

-- due at outputs, in their order
abbrev pub due_sends_by : {A : Type 0} → StepContext A → List (Epoch A) → List (Out A) → List (Payload A)
due_sends_by m = due_on_outputs (due_context m)

-- the mark isn't below the newest epoch's
abbrev pub is_risen : {A : Type 0} → List (Epoch A) → ℕ → Bool
is_risen [] mark = true
is_risen (s ∷ older) mark = nat_le s.mark mark

-- an output lowers no safe mark
abbrev pub rises_at : {A : Type 0} → List (Epoch A) → Out A → Bool
rises_at epochs (Safe ring upto) = is_risen epochs upto
rises_at epochs (Send to frame) = true
rises_at epochs (Agreed ring k x) = true
rises_at epochs (Trans old new set) = true
rises_at epochs (Rest ring k x) = true
rises_at epochs (Regular ring set) = true

-- outputs, one after the other, lower no safe mark
abbrev pub rises : {A : Type 0} → List (Epoch A) → List (Out A) → Bool
rises epochs [] = true
rises epochs (o ∷ outs) = rises_at epochs o && rises (epochs_after_event epochs o) outs
