-- The effect of a message on the stored log, its exchange and the due payloads is the one defined by the longer life.
use Rattle.std.proofs.Common.{◌≡◌, ℕ, ◌+◌, ◌-◌, ◌≤◌, ◌==◌, ◌&&◌, max, Bool, true, false, not, List, [], ◌∷◌, ◌++◌, length, take, drop}
use Rattle.std.specs.Prelude.{nat_le, nat_lt, is_some, unwrap_or, ◌||◌}
use Rattle.std.proofs.Common.{Option, Some, None, inl, inr, refl, ap, sym, ◌∙◌, subst, arith, append_assoc, length-append, if◌then◌else◌}
use Rattle.std.proofs.lemmas.Bool.{cond_both, cond-true, cond-false, and_parts, eqb-true, eq-eqb, ltb-true, leb-true}
use Rattle.std.proofs.lemmas.List.{append-nil, drop-append-le, take-append-le}
use Rattle.ring_base.specs.Group.{Group, is_primary}
use Rattle.ring_base.specs.Numbers.{max_number}
use Rattle.ring_base.specs.Processors.{has, nobody}
use Rattle.ring_base.specs.declared.ring_id.RingId.{RingId}
use Rattle.ring_payload.specs.PayloadKinds.{calls_of}
use Rattle.ring_payload.specs.declared.call.Call.{Call as OneCall}
use Rattle.ring_payload.specs.declared.calls.Part.{Part as OnePart}
use Rattle.ring_payload.specs.declared.head.Head.{Head as OneHead}
use Rattle.ring_payload.specs.declared.snap.Snap.{Snap as OneSnap}
use Rattle.ring_payload.specs.declared.content.Payload.{Payload}
use Rattle.ring_payload.specs.declared.content.Payload.TheVariants.{Call, Wrapped, End, Head, Part, Pack, Snap}
use Rattle.ring_wire.specs.declared.message.Message.{Message}
use Rattle.ring_log.specs.declared.base.Base.{Base}
use Rattle.ring_log.specs.declared.wanted.Wanted.{Wanted}
use Rattle.ring_log.specs.Exchanges.{Exchange, exchange_opening, wanted_from_heads, wanted, hear_head, is_next_piece, hear_snap, is_wanted, hear_part, heard}
use Rattle.ring_log.specs.Exchanges.{has_all_wanted, is_exchange_complete, snapshot_by, base_from, handed_out, base_at, exchange_drained}
use Rattle.ring_log.specs.Logs.{Log, log_length, appended, restores as log_restores, restored_log, joined_log, log_after_base, is_log_length, is_adoptable}
use Rattle.ring_log.specs.Epochs.{Epoch}
use Rattle.ring_log.specs.EpochHistories.{CompleteExchange, exchange_after_message, complete_exchange_from, exchange_after_messages, complete_exchange, calls_in, messages_upto}
use Rattle.ring_log.specs.KnownLog.{KnownLog, IsKnownLog, known_log_length, restores, known_log_restored, known_log_joined, known_log_adopted, adopts, adopts_wanted}
use Rattle.ring_log.specs.KnownLog.{followed_by, known_log_after_epoch, dropped_by, known_log_of, retained_log}
use Rattle.ring_log.specs.KnownLog.{begins_kept, keeps_wanted, keeps_kept, is_known_log_sound}
use Rattle.ring_log.proofs.AdoptedLogs.{adoptable-is, adopted-is, known-adopted}
use Rattle.ring_log.proofs.WholeExchanges.{received_head, has-nobody, exchange_drained-open, exchange_opening-open, push-none, push-some, none-open, some-whole}
use Rattle.ring_log_proof.proofs.CompleteExchanges.{grown, upto-front, calls_in-append}
use Rattle.ring_log_proof.proofs.KnownGrows.{adopts-grown, known-longer_list}
use Rattle.ring_log_proof.specs.EpochEvents.{IsEpochExtended}
use Rattle.ring_replication.proofs.IsKnownLogExtended.{joined-places}
use Rattle.ring_log_proof.proofs.KnownLogs.{known-epoch}
use Rattle.ring_session.specs.declared.pending_ticket.PendingTicket.{PendingTicket}
use Rattle.ring_replication.specs.declared.delivery_context.DeliveryContext.{DeliveryContext}
use Rattle.ring_replication.specs.declared.exchange_stage.ExchangeStage.{ExchangeStage}
use Rattle.ring_replication.specs.declared.exchange_stage.ExchangeStage.TheVariants.{NotPrimary, Exchanging, Adopted}
use Rattle.ring_node_spec.specs.DueSends.{has_all_heads, owner_due, due_when_heads_complete, uncommitted_places, due_when_complete, owner_due_on_heads}
use Rattle.ring_replication.specs.Replications.{MayRestore}
use Rattle.ring_replication.specs.Replications.{HeldLog, held_log_restored, held_log_adopted, stage_by_exchange, stage_in, reached_places, watermark_of, watermark_at, calls_to_resend, owner_asked, if_runs}
use Rattle.ring_replication.specs.Replications.{MessageEffect, base_effect, message_effect, StepContext, bytes_at, due_context, due_sends_on_message}
use Rattle.ring_replication.proofs.Replications.{none-front, kept_base, log_with, kept-log, length-with}

-- ---- an exchange that isn't complete

exchange_after_messages-push : {A : Type 0} (e : Exchange A) (xs : List (Message A)) (x : Message A) → exchange_after_messages e (xs ++ x ∷ []) ≡ exchange_after_message (exchange_after_messages e xs) x
exchange_after_messages-push e [] x = refl
exchange_after_messages-push e (y ∷ ys) x = exchange_after_messages-push (exchange_after_message e y) ys x

-- before all Heads are received nothing is wanted
unstated-wanted : {A : Type 0} (e : Exchange A) → has_all_heads e ≡ false → wanted e ≡ None
unstated-wanted e f = cond-false (e.missing_heads == nobody) (wanted_from_heads e.heads) None f

exchange_drained-wanted : {A : Type 0} (e : Exchange A) → wanted (exchange_drained e) ≡ wanted e
exchange_drained-wanted {A} e = cond_both (is_exchange_complete e) (record e { bytes = []; received_calls = [] }) e (λ (r : Exchange A). wanted r ≡ wanted e) (λ t. refl) (λ f. refl)

-- if all Heads were received and nothing is wanted, every payload is ignored
no-head : {A : Type 0} (e : Exchange A) (sender : ℕ) (head : OneHead) → has_all_heads e ≡ true → hear_head e sender head ≡ e
no-head e sender head t =
    cond-false (has e.missing_heads sender) _ e (ap (λ set. has set sender) (eqb-true e.missing_heads nobody t) ∙ has-nobody sender)

no-part : {A : Type 0} (e : Exchange A) (sender : ℕ) (part : OnePart A) → wanted e ≡ None → hear_part e sender part ≡ e
no-part {A} e sender part none = by (wanted e) none
  where
    by : (o : Option Wanted) → o ≡ None
        → (if (is_wanted o e.received_bytes e.total e.places sender part)
        then record e { places = e.places + length part.calls; received_calls = e.received_calls ++ part.calls } else e) ≡ e
    by None e' = refl
    by (Some w) e' = absurd (cc e')

no-snap : {A : Type 0} (e : Exchange A) (sender : ℕ) (snap : OneSnap A) → wanted e ≡ None → hear_snap e sender snap ≡ e
no-snap {A} e sender snap none = by (wanted e) none
  where
    by : (o : Option Wanted) → o ≡ None
        → (if (is_next_piece o e.received_bytes e.total sender snap)
        then record e { received_bytes = e.received_bytes + length snap.bytes; total = snap.total; bytes = e.bytes ++ snap.bytes } else e) ≡ e
    by None e' = refl
    by (Some w) e' = absurd (cc e')

epochs_with_message-nothing : {A : Type 0} (e : Exchange A) (sender : ℕ) (payload : Payload A) → has_all_heads e ≡ true → wanted e ≡ None → heard e sender payload ≡ e
epochs_with_message-nothing e sender (Head head) t none = no-head e sender head t
epochs_with_message-nothing e sender (Part part) t none = no-part e sender part none
epochs_with_message-nothing e sender (Call call) t none = refl
epochs_with_message-nothing e sender (Wrapped old) t none = refl
epochs_with_message-nothing e sender End t none = refl
epochs_with_message-nothing e sender (Pack pack) t none = refl
epochs_with_message-nothing e sender (Snap snap) t none = no-snap e sender snap none

-- the owner's payloads are due at the last Head
owner-due-case : {A : Type 0} (me : ℕ) (h : HeldLog A) (e new : Exchange A) (b c : Bool) (v w : Option Wanted) → has_all_heads e ≡ b → has_all_heads new ≡ c
    → wanted e ≡ v → wanted new ≡ w → (b ≡ true → v ≡ None → w ≡ None)
    → owner_asked me h v w ≡ (if c && not b then owner_due me h.snapshot h.log w else [])
owner-due-case me h e new true true None w s t g i k = ap (owner_due me h.snapshot h.log) (k refl refl)
owner-due-case me h e new true false None w s t g i k = ap (owner_due me h.snapshot h.log) (k refl refl)
owner-due-case me h e new true true (Some v) w s t g i k = refl
owner-due-case me h e new true false (Some v) w s t g i k = refl
owner-due-case me h e new false true None w s t g i k = refl
owner-due-case me h e new false false None w s t g i k = ap (owner_due me h.snapshot h.log) (sym i ∙ unstated-wanted new t)
owner-due-case me h e new false c (Some v) w s t g i k = absurd (let x = sym g ∙ unstated-wanted e s in cc x)

owner-is : {A : Type 0} (me : ℕ) (h : HeldLog A) (e : Exchange A) (x : Message A)
    → owner_asked me h (wanted e) (wanted (exchange_drained (exchange_after_message e x))) ≡ due_when_heads_complete me h.snapshot h.log e (exchange_after_message e x)
owner-is me h e x =
    ap (owner_asked me h (wanted e)) (exchange_drained-wanted (exchange_after_message e x))
    ∙ owner-due-case me h e (exchange_after_message e x) (has_all_heads e) (has_all_heads (exchange_after_message e x)) (wanted e) (wanted (exchange_after_message e x)) refl refl refl refl
    (λ t none. ap wanted (epochs_with_message-nothing e x.sender x.payload t none) ∙ none)

-- ---- the effect of the message

abbrev pub with_message : {A : Type 0} → Epoch A → Message A → Epoch A
with_message s x = record s { heard = s.heard ++ x ∷ [] }

-- the known log after these messages of the newest epoch, without its safe marks and dropped places
abbrev pub base_by : {A : Type 0} → Group → Epoch A → List (Epoch A) → List (Message A) → KnownLog A
base_by group s older text = kept_base s.ring (known_log_of group older) (complete_exchange group s.members text)

-- the log after them, with what was safe before the message
abbrev pub log_by : {A : Type 0} → Group → Epoch A → List (Epoch A) → List (Message A) → Log A
log_by group s older text =
    let b = base_by group s older text in
    log_with b (max s.trimmed b.trimmed) (max b.committed (watermark_of group s.members s.ring (known_log_of group older) (messages_upto s.mark s.heard)))

pub record Hears {A : Type 0} (group : Group) (s : Epoch A) (older : List (Epoch A)) (x : Message A) (h : HeldLog A) (t : MessageEffect A)
    (history_with_sends : List (Payload A)) : Type 0 where
  pub sound : t.fits ≡ is_known_log_sound group (with_message s x ∷ older)
  pub stage : t.fits ≡ true → t.stage ≡ stage_in group s.members (s.heard ++ x ∷ [])
  pub log : t.fits ≡ true → t.held.log ≡ log_by group s older (s.heard ++ x ∷ [])
  pub due : t.fits ≡ true → t.due ≡ history_with_sends
  pub reach : t.fits ≡ true → watermark_at t.stage t.held.log ≡ watermark_of group s.members s.ring (known_log_of group older) (s.heard ++ x ∷ [])
  pub onward : t.fits ≡ true → MayRestore h t.held (known_log_of group (s ∷ older)) (known_log_of group (with_message s x ∷ older))

-- the facts before the message, about the newest epoch
record Before {A : Type 0} (group : Group) (s : Epoch A) (older : List (Epoch A)) (h : HeldLog A) (whole : Option (CompleteExchange A)) : Type 0 where
  exch : complete_exchange group s.members s.heard ≡ whole
  old : is_known_log_sound group older ≡ true
  keeps : keeps_kept (known_log_of group older) s.ring whole ≡ true
  short : is_log_length (known_log_length (kept_base s.ring (known_log_of group older) whole)) ≡ true
  log : h.log ≡ log_by group s older s.heard
  was : IsKnownLog (known_log_of group older)
  known : IsKnownLog (known_log_of group (s ∷ older))

-- the length of an epoch's log doesn't depend on what is safe
pub length-by : {A : Type 0} (ring : RingId) (k : KnownLog A) (places : ℕ) (o p : Option (CompleteExchange A))
    → known_log_length (dropped_by places (known_log_after_epoch ring k o p)) ≡ known_log_length (kept_base ring k o)
length-by ring k places None p = refl
length-by ring k places (Some w) p = refl

pub from-by : {A : Type 0} (ring : RingId) (k : KnownLog A) (places : ℕ) (o p : Option (CompleteExchange A))
    → (dropped_by places (known_log_after_epoch ring k o p)).from ≡ (kept_base ring k o).from
from-by ring k places None p = refl
from-by ring k places (Some w) p = refl

pub trimmed-by : {A : Type 0} (ring : RingId) (k : KnownLog A) (places : ℕ) (o p : Option (CompleteExchange A))
    → (dropped_by places (known_log_after_epoch ring k o p)).trimmed ≡ max places (kept_base ring k o).trimmed
trimmed-by ring k places None p = refl
trimmed-by ring k places (Some w) p = refl

pub bytes-by : {A : Type 0} (ring : RingId) (k : KnownLog A) (places : ℕ) (o p : Option (CompleteExchange A))
    → (dropped_by places (known_log_after_epoch ring k o p)).snapshot ≡ (kept_base ring k o).snapshot
bytes-by ring k places None p = refl
bytes-by ring k places (Some w) p = refl

pub calls-by : {A : Type 0} (ring : RingId) (k : KnownLog A) (places : ℕ) (o p : Option (CompleteExchange A))
    → (dropped_by places (known_log_after_epoch ring k o p)).calls ≡ (kept_base ring k o).calls
calls-by ring k places None p = refl
calls-by ring k places (Some w) p = refl

-- the replication continues without a restore: the committed places are those of both known logs
record SameBase {A : Type 0} (committed : ℕ) (b now : KnownLog A) : Type 0 where
  from : now.from ≡ b.from
  trimmed : now.trimmed ≡ b.trimmed
  bytes : now.snapshot ≡ b.snapshot
  places : take (committed - b.from) now.calls ≡ take (committed - b.from) b.calls

goes-same : {A : Type 0} (group : Group) (s : Epoch A) (older : List (Epoch A)) (x : Message A) (h h' : HeldLog A) (o o' : Option (CompleteExchange A))
    → complete_exchange group s.members s.heard ≡ o → complete_exchange group s.members (s.heard ++ x ∷ []) ≡ o' → h'.before ≡ h.before → h'.snapshot ≡ h.snapshot
    → SameBase (known_log_of group (s ∷ older)).committed (kept_base s.ring (known_log_of group older) o) (kept_base s.ring (known_log_of group older) o')
    → MayRestore h h' (known_log_of group (s ∷ older)) (known_log_of group (with_message s x ∷ older))
goes-same {A} group s older x h h' o o' e e' before snapshot same =
    let k = known_log_of group older in
    let K = known_log_of group (s ∷ older) in
    let text = s.heard ++ x ∷ [] in
    let p = complete_exchange group s.members (messages_upto s.mark s.heard) in
    let p' = complete_exchange group s.members (messages_upto s.mark text) in
    let base : Option (CompleteExchange A) → KnownLog A = λ w. kept_base s.ring k w in
    let first : K.from ≡ (base o).from = from-by s.ring k s.trimmed (complete_exchange group s.members s.heard) p ∙ ap (λ w. (base w).from) e in
    let grows : IsEpochExtended s (with_message s x) =
    record {
      ring = refl;
      members = refl;
      heard = (x ∷ [], refl);
      mark = omega arith;
      sent = ([], append-nil s.sent);
      trimmed = omega arith;
      front = λ w e. refl;
    } in
    inl (record {
      before = before;
      snapshot = snapshot;
      known = record {
        from = from-by s.ring k s.trimmed (complete_exchange group s.members text) p' ∙ ap (λ w. (base w).from) e' ∙ same.from ∙ sym first;
        trimmed = trimmed-by s.ring k s.trimmed (complete_exchange group s.members text) p' ∙ ap (λ w. max s.trimmed (base w).trimmed) e'
            ∙ ap (max s.trimmed) same.trimmed
            ∙ sym (trimmed-by s.ring k s.trimmed (complete_exchange group s.members s.heard) p ∙ ap (λ w. max s.trimmed (base w).trimmed) e);
        bytes = bytes-by s.ring k s.trimmed (complete_exchange group s.members text) p' ∙ ap (λ w. (base w).snapshot) e' ∙ same.bytes
            ∙ sym (bytes-by s.ring k s.trimmed (complete_exchange group s.members s.heard) p ∙ ap (λ w. (base w).snapshot) e);
        committed = known-longer_list group s (with_message s x) older grows;
        places = ap (take (K.committed - K.from)) (calls-by s.ring k s.trimmed (complete_exchange group s.members text) p' ∙ ap (λ w. (base w).calls) e')
            ∙ ap (λ n. take (K.committed - n) (base o').calls) first ∙ same.places
            ∙ sym (ap (take (K.committed - K.from)) (calls-by s.ring k s.trimmed (complete_exchange group s.members s.heard) p ∙ ap (λ w. (base w).calls) e)
            ∙ ap (λ n. take (K.committed - n) (base o).calls) first);
      };
    })

-- the case that the longer text has this exchange
sound-now : {A : Type 0} (group : Group) (s : Epoch A) (older : List (Epoch A)) (x : Message A) (b : Bool) (o : Option (CompleteExchange A))
    → is_known_log_sound group older ≡ true → complete_exchange group s.members (s.heard ++ x ∷ []) ≡ o
    → b ≡ keeps_kept (known_log_of group older) s.ring o && is_log_length (known_log_length (kept_base s.ring (known_log_of group older) o))
    → b ≡ is_known_log_sound group (with_message s x ∷ older)
sound-now {A} group s older x b o t e is =
    let k = known_log_of group older in
    let text = s.heard ++ x ∷ [] in
    let now : Option (CompleteExchange A) → Bool = λ w. (is_known_log_sound group older && keeps_kept k s.ring w) && is_log_length (known_log_length (kept_base s.ring k w)) in
    is ∙ ap (λ c. (c && keeps_kept k s.ring o) && is_log_length (known_log_length (kept_base s.ring k o))) (sym t) ∙ ap now (sym e)
    ∙ ap (λ n. (is_known_log_sound group older && keeps_kept k s.ring (complete_exchange group s.members text)) && is_log_length n)
    (sym (length-by s.ring k s.trimmed (complete_exchange group s.members text) (complete_exchange group s.members (messages_upto s.mark text))))

-- an exchange that stays open, or a ring without one
epochs_with_message-none : {A : Type 0} (group : Group) (s : Epoch A) (older : List (Epoch A)) (x : Message A) (h : HeldLog A) (stage : ExchangeStage A) (places due : List (Payload A))
    → Before group s older h None → complete_exchange group s.members (s.heard ++ x ∷ []) ≡ None → stage ≡ stage_in group s.members (s.heard ++ x ∷ [])
    → watermark_at stage h.log ≡ 0 → places ≡ due
    → Hears group s older x h (record { stage = stage; fits = true; held = h; due = places }) due
epochs_with_message-none {A} group s older x h stage places due k none at low same =
    let made : Option (CompleteExchange A) → Log A = λ o.
    let b = kept_base s.ring (known_log_of group older) o in
    log_with b (max s.trimmed b.trimmed) (max b.committed (watermark_of group s.members s.ring (known_log_of group older) (messages_upto s.mark s.heard))) in
    record {
      sound = sound-now group s older x true None k.old none (sym k.short);
      stage = λ t. at;
      log = λ t. k.log ∙ ap made k.exch ∙ ap made (sym none);
      due = λ t. same;
      reach = λ t. low ∙ ap (reached_places s.ring (known_log_of group older)) (sym none);
      onward = λ t. goes-same group s older x h h None None k.exch none refl refl (record { from = refl; trimmed = refl; bytes = refl; places = refl });
    }

-- messages after an exchange don't change whether the node accepts its base
pub keeps-grown : {A : Type 0} (k : KnownLog A) (ring : RingId) (w : CompleteExchange A) (more : List (Message A))
    → keeps_kept k ring (Some (grown w more)) ≡ keeps_kept k ring (Some w)
keeps-grown {A} k ring w more = by (wanted w.exchange)
  where
    by : (o : Option Wanted) → keeps_wanted k ring o (grown w more) ≡ keeps_wanted k ring o w
    by None = refl
    by (Some v) = ap (λ (a : KnownLog A). restores k v || (nat_le v.from k.committed && begins_kept k a)) (adopts-grown k ring w more)

-- a ring that is already adopted
epochs_with_message-adopted : {A : Type 0} (group : Group) (s : Epoch A) (older : List (Epoch A)) (x : Message A) (delivery_context : DeliveryContext)
    (pending : List (PendingTicket A)) (h : HeldLog A) (w : CompleteExchange A) (due : List (Payload A))
    → Before group s older h (Some w) → complete_exchange group s.members (s.heard ++ x ∷ []) ≡ Some (record w { rest = w.rest ++ x ∷ [] })
    → Adopted ≡ stage_in group s.members (s.heard ++ x ∷ []) → [] ≡ due
    → Hears group s older x h (message_effect delivery_context pending h Adopted x) due
epochs_with_message-adopted {A} group s older x delivery_context pending h w due k some at none =
    let known = known_log_of group older in
    let ring = s.ring in
    let w' : CompleteExchange A = record w { rest = w.rest ++ x ∷ [] } in
    let b = kept_base ring known (Some w) in
    let b' = kept_base ring known (Some w') in
    let front = watermark_of group s.members ring known (messages_upto s.mark s.heard) in
    let made : Option (CompleteExchange A) → Log A = λ o.
    let c = kept_base ring known o in log_with c (max s.trimmed c.trimmed) (max c.committed front) in
    let t = max s.trimmed b.trimmed in
    let log_is : h.log ≡ log_with b t (max b.committed front) = k.log ∙ ap made k.exch in
    let calls : calls_in w'.rest ≡ calls_in w.rest ++ calls_of x.payload = calls_in-append w.rest (x ∷ [])
    ∙ ap (λ l. calls_in w.rest ++ l) (append-nil (calls_of x.payload)) in
    let grown_is : b' ≡ followed_by b (calls_of x.payload) =
    ap (λ (a : KnownLog A). followed_by a (calls_in w'.rest)) (adopts-grown known ring w (x ∷ []))
    ∙ ap (followed_by (adopts known ring w)) calls
    ∙ ap (λ l. record (adopts known ring w) { calls = l }) (sym (append_assoc (adopts known ring w).calls (calls_in w.rest) (calls_of x.payload))) in
    let whole_is : known_log_length (known_log_of group (s ∷ older)) ≡ known_log_length b =
    length-by ring known s.trimmed (complete_exchange group s.members s.heard) (complete_exchange group s.members (messages_upto s.mark s.heard))
    ∙ ap (λ o. known_log_length (kept_base ring known o)) k.exch in
    let known_is : retained_log (known_log_of group (s ∷ older)) ≡ made (Some w) =
    kept-log group s.members ring known s.trimmed s.heard (messages_upto s.mark s.heard) (complete_exchange group s.members s.heard)
    (complete_exchange group s.members (messages_upto s.mark s.heard)) refl refl (upto-front s.mark s.heard) ∙ ap made k.exch in
    let dropped : (known_log_of group (s ∷ older)).trimmed ≡ t = ap (λ (l : Log A). l.trimmed) known_is in
    let first_is : (known_log_of group (s ∷ older)).from ≡ b.from =
    from-by ring known s.trimmed (complete_exchange group s.members s.heard) (complete_exchange group s.members (messages_upto s.mark s.heard))
    ∙ ap (λ o. (kept_base ring known o).from) k.exch in
    let low : b.from ≤ t = omega (arith, k.known.low, first_is, dropped) in
    let high : t ≤ known_log_length b = omega (arith, k.known.high, k.known.within, dropped, whole_is) in
    let inside : t - b.from ≤ length b.calls = omega (arith, low, high) in
    let long : log_length h.log ≡ known_log_length b = ap log_length log_is ∙ length-with group s.members ring known b t (max b.committed front) low high in
    let new : drop (t - b.from) b.calls ++ calls_of x.payload ≡ drop (t - b.from) (b.calls ++ calls_of x.payload) =
    sym (drop-append-le (t - b.from) b.calls (calls_of x.payload) inside) in
    let appended_is : appended h.log (calls_of x.payload) ≡ made (Some w') =
    ap (λ l. appended l (calls_of x.payload)) log_is
    ∙ ap (λ l. record (log_with b t (max b.committed front)) { calls = l }) new
    ∙ ap (λ (c : KnownLog A). log_with c (max s.trimmed c.trimmed) (max c.committed front)) (sym grown_is) in
    let size : log_length h.log + length (calls_of x.payload) ≡ known_log_length b' =
    omega (arith, long, length-append b.calls (calls_of x.payload), ap (λ (c : KnownLog A). known_log_length c) grown_is) in
    let reach_is : log_length (appended h.log (calls_of x.payload)) ≡ reached_places ring known (Some w') =
    omega (arith, size, length-append h.log.calls (calls_of x.payload), length-append (adopts known ring w').calls (calls_in w'.rest)) in
    record {
      sound = sound-now group s older x (is_log_length (log_length h.log + length (calls_of x.payload))) (Some w') k.old some
          (ap is_log_length size ∙ ap (λ c. c && is_log_length (known_log_length b')) (sym (keeps-grown known ring w (x ∷ []) ∙ k.keeps)));
      stage = λ t. at;
      log = λ t. appended_is ∙ ap made (sym some);
      due = λ t. none;
      reach = λ t. reach_is ∙ ap (reached_places ring known) (sym some);
      onward = λ t. goes-same group s older x h (record h { log = appended h.log (calls_of x.payload) }) (Some w) (Some w') k.exch some refl refl (record {
        from = ap (λ (c : KnownLog A). c.from) grown_is;
        trimmed = ap (λ (c : KnownLog A). c.trimmed) grown_is;
        bytes = ap (λ (c : KnownLog A). c.snapshot) grown_is;
        places = ap (λ (c : KnownLog A). take ((known_log_of group (s ∷ older)).committed - b.from) c.calls) grown_is
            ∙ take-append-le ((known_log_of group (s ∷ older)).committed - b.from) b.calls (calls_of x.payload)
            (omega (arith, k.known.within, first_is, whole_is));
      });
    }

-- the base of a complete exchange has what was wanted and what was received
base-by : {A : Type 0} (o : Option Wanted) (bytes : List ℕ) (calls : List (OneCall A)) (base : Base A) → base_from o bytes calls ≡ Some base
    → (v : Wanted) × (o ≡ Some v) × (base ≡ record { from = v.from; snapshot = snapshot_by v.snapshot bytes; calls = calls })
base-by None bytes calls base e = absurd (cc e)
base-by {A} (Some v) bytes calls base e =
    let made : Base A = record { from = v.from; snapshot = snapshot_by v.snapshot bytes; calls = calls } in
    let same : made ≡ base = cc e in
    (v, refl, sym same)

-- a ring that the message makes the node adopt
module _ {A : Type 0} (group : Group) (s : Epoch A) (older : List (Epoch A)) (x : Message A) (delivery_context : DeliveryContext) (pending : List (PendingTicket A)) (h : HeldLog A)
    (e : Exchange A) (places due : List (Payload A)) (k : Before group s older h None)
    (some : complete_exchange group s.members (s.heard ++ x ∷ []) ≡ Some (record { exchange = e; end = x.number; rest = [] }))
    (at : Adopted ≡ stage_in group s.members (s.heard ++ x ∷ [])) (ring_is : delivery_context.ring ≡ s.ring) (frozen : s.trimmed ≡ 0)
    (early : complete_exchange group s.members (messages_upto s.mark s.heard) ≡ None) (short : (known_log_of group older).committed ≤ max_number) where
  abbrev known : KnownLog A
  known = known_log_of group older

  abbrev whole : CompleteExchange A
  whole = record { exchange = e; end = x.number; rest = [] }

  abbrev now : KnownLog A
  now = kept_base s.ring known (Some whole)

  -- before it, the log has nothing of the ring
  log-was : h.log ≡ retained_log known
  log-was =
      let made : Option (CompleteExchange A) → Option (CompleteExchange A) → ℕ → Log A = λ o p n.
      let b = kept_base s.ring known o in log_with b (max n b.trimmed) (max b.committed (reached_places s.ring known p)) in
      let a : max 0 known.trimmed ≡ known.trimmed = omega arith in
      let c : max known.committed 0 ≡ known.committed = omega arith in
      k.log ∙ ap (λ o. made o (complete_exchange group s.members (messages_upto s.mark s.heard)) s.trimmed) k.exch
      ∙ ap (λ p. made None p s.trimmed) early ∙ ap (made None None) frozen
      ∙ ap (λ n. log_with known n (max known.committed 0)) a ∙ ap (log_with known known.trimmed) c

  known-was : IsKnownLog known
  known-was = k.was

  module _ (base : Base A) (v : Wanted) (wanted_is : wanted e ≡ Some v)
      (base_is : base ≡ record { from = v.from; snapshot = snapshot_by v.snapshot e.bytes; calls = e.received_calls }) where
    adopts-is : adopts known s.ring whole ≡ known_log_adopted known s.ring v e.bytes e.received_calls
    adopts-is = ap (λ o. adopts_wanted known s.ring o whole) wanted_is

    keeps-here : keeps_kept known s.ring (Some whole)
        ≡ (restores known v || (nat_le v.from known.committed && begins_kept known (known_log_adopted known s.ring v e.bytes e.received_calls)))
    keeps-here =
        ap (λ o. keeps_wanted known s.ring o whole) wanted_is
        ∙ ap (λ (a : KnownLog A). restores known v || (nat_le v.from known.committed && begins_kept known a)) adopts-is

    length-here : known_log_length now ≡ known_log_length (known_log_adopted known s.ring v e.bytes e.received_calls)
    length-here =
        let a = adopts known s.ring whole in
        ap (λ (l : List (OneCall A)). a.from + length l) (append-nil a.calls) ∙ ap (λ (b : KnownLog A). known_log_length b) adopts-is

    fits-is : is_adoptable h.log base ≡ keeps_kept known s.ring (Some whole) && is_log_length (known_log_length now)
    fits-is =
        ap (λ l. is_adoptable l base) log-was ∙ ap (is_adoptable (retained_log known)) base_is
        ∙ adoptable-is known s.ring v e.bytes e.received_calls known-was short
        ∙ ap (λ c. c && is_log_length (known_log_length (known_log_adopted known s.ring v e.bytes e.received_calls))) (sym keeps-here)
        ∙ ap (λ n. keeps_kept known s.ring (Some whole) && is_log_length n) (sym length-here)

    adopted-here : is_adoptable h.log base ≡ true → log_after_base h.log delivery_context.ring base ≡ log_by group s older (s.heard ++ x ∷ [])
    adopted-here fits =
        let keeps = and_parts (keeps_kept known s.ring (Some whole)) (is_log_length (known_log_length now)) (sym fits-is ∙ fits) in
        let a = known_log_adopted known s.ring v e.bytes e.received_calls in
        let made : Option (CompleteExchange A) → Option (CompleteExchange A) → ℕ → Log A = λ o p n.
        let b = kept_base s.ring known o in log_with b (max n b.trimmed) (max b.committed (reached_places s.ring known p)) in
        let t : max 0 a.trimmed ≡ a.trimmed = omega arith in
        let c : max a.committed 0 ≡ a.committed = omega arith in
        let same : retained_log a ≡ made (Some whole) None 0 =
        sym (ap (λ n. log_with a n (max a.committed 0)) t ∙ ap (log_with a a.trimmed) c)
        ∙ ap (λ (b : KnownLog A). log_with b (max 0 b.trimmed) (max b.committed 0)) (sym (ap (λ (b : KnownLog A). followed_by b []) adopts-is ∙ followed-none a)) in
        ap (λ l. log_after_base l delivery_context.ring base) log-was ∙ ap (λ r. log_after_base (retained_log known) r base) ring_is ∙ ap (log_after_base (retained_log known) s.ring) base_is
        ∙ sym (adopted-is known s.ring v e.bytes e.received_calls known-was (sym keeps-here ∙ keeps.0))
        ∙ same ∙ ap (made (Some whole) None) (sym frozen) ∙ ap (λ p. made (Some whole) p s.trimmed) (sym early)
        ∙ ap (λ o. made o (complete_exchange group s.members (messages_upto s.mark s.heard)) s.trimmed) (sym some)
      where
        followed-none : (b : KnownLog A) → followed_by b [] ≡ b
        followed-none b = ap (λ l. record b { calls = l }) (append-nil b.calls)

    held-log : (held_log_adopted h delivery_context.ring base).log ≡ log_after_base h.log delivery_context.ring base
    held-log = by (log_restores h.log base)
      where
        by : (b : Bool)
            → (if b then held_log_restored h (restored_log h.log delivery_context.ring base) base.snapshot else record h { log = joined_log h.log delivery_context.ring base }).log
            ≡ (if b then restored_log h.log delivery_context.ring base else joined_log h.log delivery_context.ring base)
        by true = refl
        by false = refl

    epochs_with_message-base : places ++ if_runs delivery_context.runs (calls_to_resend pending (uncommitted_places delivery_context.committed (log_by group s older (s.heard ++ x ∷ [])))) ≡ due
        → Hears group s older x h (base_effect delivery_context pending h (exchange_drained e) places (Some base)) due
    epochs_with_message-base is_due = record {
      sound = sound-now group s older x (is_adoptable h.log base) (Some whole) k.old some fits-is;
      stage = λ t. at;
      log = λ t. held-log ∙ adopted-here t;
      due = λ t. ap (λ l. places ++ if_runs delivery_context.runs (calls_to_resend pending (uncommitted_places delivery_context.committed l))) (held-log ∙ adopted-here t) ∙ is_due;
      reach = λ t. ap log_length (held-log ∙ adopted-here t) ∙ reach-here t;
      onward = λ t. onward-here (restores known v) refl t;
    }
      where
        some-is : (o : Option ℕ) → is_some (snapshot_by o e.bytes) ≡ is_some o
        some-is None = refl
        some-is (Some n) = refl

        restores-is : log_restores h.log base ≡ restores known v
        restores-is =
            ap (λ l. log_restores l base) log-was ∙ ap (log_restores (retained_log known)) base_is
            ∙ ap (λ b. b && nat_lt known.committed v.from) (some-is v.snapshot)

        bytes-are : (o : Option ℕ) → is_some o ≡ true → unwrap_or (snapshot_by o e.bytes) h.snapshot ≡ e.bytes
        bytes-are None t = absurd (cc t)
        bytes-are (Some n) t = refl

        held : HeldLog A
        held = held_log_adopted h delivery_context.ring base

        held-is : (b : Bool) → log_restores h.log base ≡ b
            → held ≡ (if b then held_log_restored h (restored_log h.log delivery_context.ring base) base.snapshot else record h { log = joined_log h.log delivery_context.ring base })
        held-is b is =
            ap (λ c. if c then held_log_restored h (restored_log h.log delivery_context.ring base) base.snapshot else record h { log = joined_log h.log delivery_context.ring base })
            is

        base-is : (b : Bool) → restores known v ≡ b
            → now ≡ followed_by (if b then known_log_restored s.ring v e.bytes e.received_calls else known_log_joined known s.ring v e.received_calls) []
        base-is b is =
            ap (λ (a : KnownLog A). followed_by a []) (adopts-is
            ∙ ap (λ c. if c then known_log_restored s.ring v e.bytes e.received_calls else known_log_joined known s.ring v e.received_calls) is)

        was-log : h.log ≡ retained_log (known_log_of group (s ∷ older))
        was-log =
            k.log
            ∙ sym (kept-log group s.members s.ring known s.trimmed s.heard (messages_upto s.mark s.heard) (complete_exchange group s.members s.heard)
            (complete_exchange group s.members (messages_upto s.mark s.heard)) refl refl (upto-front s.mark s.heard))

        onward-here : (b : Bool) → restores known v ≡ b → is_adoptable h.log base ≡ true
            → MayRestore h held (known_log_of group (s ∷ older)) (known_log_of group (with_message s x ∷ older))
        onward-here true r t =
            let holds = held-is true (restores-is ∙ r) in
            let is = base-is true r in
            let text = s.heard ++ x ∷ [] in
            let parts = and_parts (is_some v.snapshot) (nat_lt known.committed v.from) r in
            let less = ltb-true known.committed v.from parts.1 in
            let safe = messages_upto s.mark text in
            let gone = trimmed-by s.ring known s.trimmed (complete_exchange group s.members s.heard) (complete_exchange group s.members (messages_upto s.mark s.heard))
            ∙ ap (λ o. max s.trimmed (kept_base s.ring known o).trimmed) k.exch in
            let then_gone = trimmed-by s.ring known s.trimmed (complete_exchange group s.members text) (complete_exchange group s.members safe)
            ∙ ap (λ o. max s.trimmed (kept_base s.ring known o).trimmed) some ∙ ap (λ (c : KnownLog A). max s.trimmed c.trimmed) is in
            let then_from = from-by s.ring known s.trimmed (complete_exchange group s.members text) (complete_exchange group s.members safe)
            ∙ ap (λ o. (kept_base s.ring known o).from) some ∙ ap (λ (c : KnownLog A). c.from) is in
            inr (record {
              before = ap (λ (y : HeldLog A). is_some y.before) holds;
              snapshot = ap (λ (y : HeldLog A). y.snapshot) holds ∙ ap (λ (y : Base A). unwrap_or y.snapshot h.snapshot) base_is ∙ bytes-are v.snapshot parts.0
                  ∙ sym (bytes-by s.ring known s.trimmed (complete_exchange group s.members text) (complete_exchange group s.members safe)
                  ∙ ap (λ o. (kept_base s.ring known o).snapshot) some ∙ ap (λ (c : KnownLog A). c.snapshot) is);
              trimmed = omega (arith, gone, then_gone, frozen, less, known-was.high);
              from = omega (arith, then_gone, then_from, frozen);
              past = omega (arith, less, then_from, ap (λ (l : Log A). l.committed) (sym was-log ∙ log-was));
            })
        onward-here false f t =
            let holds = held-is false (restores-is ∙ f) in
            let is = base-is false f in
            let keeps = and_parts (keeps_kept known s.ring (Some whole)) (is_log_length (known_log_length now)) (sym fits-is ∙ t) in
            let adopted_is : known_log_adopted known s.ring v e.bytes e.received_calls ≡ known_log_joined known s.ring v e.received_calls =
            cond-false (restores known v) (known_log_restored s.ring v e.bytes e.received_calls) (known_log_joined known s.ring v e.received_calls) f in
            let goes = and_parts (nat_le v.from known.committed) (begins_kept known (known_log_adopted known s.ring v e.bytes e.received_calls))
            (ap (λ b. b || (nat_le v.from known.committed && begins_kept known (known_log_adopted known s.ring v e.bytes e.received_calls))) (sym f)
            ∙ sym keeps-here ∙ keeps.0) in
            let le = leb-true v.from known.committed goes.0 in
            let was : (known_log_of group (s ∷ older)).committed ≡ known.committed = ap (λ (l : Log A). l.committed) (sym was-log ∙ log-was) in
            goes-same group s older x h held None (Some whole) k.exch some (ap (λ (y : HeldLog A). y.before) holds)
            (ap (λ (y : HeldLog A). y.snapshot) holds) (record {
              from = ap (λ (c : KnownLog A). c.from) is;
              trimmed = ap (λ (c : KnownLog A). c.trimmed) is;
              bytes = ap (λ (c : KnownLog A). c.snapshot) is;
              places = ap (λ n. take (n - known.from) now.calls) was ∙ ap (λ (c : KnownLog A). take (known.committed - known.from) c.calls) is
                  ∙ ap (take (known.committed - known.from)) (append-nil (known_log_joined known s.ring v e.received_calls).calls)
                  ∙ joined-places known s.ring v e.received_calls known-was le (ap (begins_kept known) (sym adopted_is) ∙ goes.1)
                  ∙ sym (ap (λ n. take (n - known.from) known.calls) was);
            })

        reach-now : known_log_length now ≡ reached_places s.ring known (Some whole)
        reach-now = omega (arith, length-append (adopts known s.ring whole).calls [])

        reach-here : is_adoptable h.log base ≡ true
            → log_length (log_by group s older (s.heard ++ x ∷ [])) ≡ reached_places s.ring known (complete_exchange group s.members (s.heard ++ x ∷ []))
        reach-here t =
            let keeps = and_parts (keeps_kept known s.ring (Some whole)) (is_log_length (known_log_length now)) (sym fits-is ∙ t) in
            let a = known-adopted known s.ring v e.bytes e.received_calls known-was (sym keeps-here ∙ keeps.0) in
            let made : Option (CompleteExchange A) → Log A = λ o.
            let b = kept_base s.ring known o in
            log_with b (max s.trimmed b.trimmed) (max b.committed (watermark_of group s.members s.ring known (messages_upto s.mark s.heard))) in
            let first : now.from ≡ (known_log_adopted known s.ring v e.bytes e.received_calls).from = ap (λ (b : KnownLog A). b.from) adopts-is in
            let gone : now.trimmed ≡ (known_log_adopted known s.ring v e.bytes e.received_calls).trimmed = ap (λ (b : KnownLog A). b.trimmed) adopts-is in
            let low : now.from ≤ max s.trimmed now.trimmed = omega (arith, a.low, first, gone) in
            let high : max s.trimmed now.trimmed ≤ known_log_length now = omega (arith, a.high, a.within, gone, length-here, frozen) in
            ap log_length (ap made some)
            ∙ length-with group s.members s.ring known now (max s.trimmed now.trimmed)
            (max now.committed (watermark_of group s.members s.ring known (messages_upto s.mark s.heard))) low high
            ∙ reach-now ∙ ap (reached_places s.ring known) (sym some)

-- ---- by the stage of the exchange

no-due : {A : Type 0} (runs primary : Bool) (a : List (Payload A)) → primary ≡ false → [] ≡ (if runs then (if primary then a else []) else [])
no-due true true a f = absurd (cc f)
no-due false true a f = absurd (cc f)
no-due true false a f = refl
no-due false false a f = refl

due-by : {A : Type 0} (runs primary : Bool) (a : List (Payload A)) → primary ≡ true → (if runs then a else [])
    ≡ (if runs then (if primary then a else []) else [])
due-by runs true a t = refl
due-by runs false a t = absurd (cc t)

if_runs-append : {A : Type 0} (runs : Bool) (a b : List (Payload A)) → if_runs runs a ++ if_runs runs b ≡ (if runs then a ++ b else [])
if_runs-append true a b = refl
if_runs-append false a b = refl

if-not : {X : Type 0} (b c : Bool) (x y : X) → c ≡ false → (if b && not c then x else y) ≡ (if b then x else y)
if-not true c x y f = ap (λ k. if not k then x else y) f
if-not false c x y f = refl

if-never : {X : Type 0} (b c : Bool) (x y : X) → c ≡ true → (if b && not c then x else y) ≡ y
if-never true c x y t = ap (λ k. if not k then x else y) t
if-never false c x y t = refl

received_calls-wanted : {A : Type 0} (o : Option Wanted) (received_bytes total places : ℕ) (bytes : List ℕ) (calls : List (OneCall A)) → has_all_wanted o received_bytes total places ≡ true
    → (base : Base A) × (base_from o bytes calls ≡ Some base)
received_calls-wanted None received_bytes total places bytes calls t = absurd (cc t)
received_calls-wanted (Some w) received_bytes total places bytes calls t = (record { from = w.from; snapshot = snapshot_by w.snapshot bytes; calls = calls }, refl)

-- a complete exchange hands out a base
whole-base : {A : Type 0} (e : Exchange A) → is_exchange_complete e ≡ true → (base : Base A) × (base_from (wanted e) e.bytes e.received_calls ≡ Some base)
whole-base e t = received_calls-wanted (wanted e) e.received_bytes e.total e.places e.bytes e.received_calls t

same-nothing : {A : Type 0} (b : Bool) (a : List (Payload A)) → a ≡ [] → (if b then a else []) ≡ []
same-nothing true a none = none
same-nothing false a none = refl

pub never-less : (n : ℕ) → nat_lt n n ≡ false
never-less n = by (nat_lt n n) refl
  where
    by : (b : Bool) → nat_lt n n ≡ b → nat_lt n n ≡ false
    by true t = absurd (let l = ltb-true n n t in omega (arith, l))
    by false f = f

module _ {A : Type 0} (group : Group) (s : Epoch A) (older : List (Epoch A)) (x : Message A) (delivery_context : DeliveryContext) (pending : List (PendingTicket A))
    (h : HeldLog A) where
  abbrev this_moment : StepContext A
  this_moment =
      record {
        group = group;
        me = delivery_context.me;
        running = None;
        pending = pending;
        committed = delivery_context.committed;
        trimmed = h.log.trimmed;
        snapshot = h.snapshot;
      }

  abbrev due : List (Payload A)
  due = due_sends_on_message this_moment delivery_context.runs (s ∷ older) x (with_message s x ∷ older)

  abbrev text : List (Message A)
  text = s.heard ++ x ∷ []

  abbrev before_it : Exchange A
  before_it = exchange_after_messages (exchange_opening s.members) s.heard

  -- the places of the base past those committed before
  abbrev past : List (OneCall A)
  past = uncommitted_places delivery_context.committed (log_by group s older text)

  -- the due payloads if the exchange becomes this one
  abbrev due_for : Exchange A → List (Payload A)
  due_for new =
      due_when_heads_complete delivery_context.me h.snapshot h.log before_it new
      ++ (if is_exchange_complete new && not (is_exchange_complete before_it) then calls_to_resend pending past else [])

  -- the facts before the message
  pub record Kept_before : Type 0 where
    pub sound : is_known_log_sound group (s ∷ older) ≡ true
    pub logged : h.log ≡ retained_log (known_log_of group (s ∷ older))
    pub known : IsKnownLog (known_log_of group older)
    pub within : s.trimmed ≤ (known_log_of group (s ∷ older)).committed
    pub frozen : is_primary group s.members ≡ true → complete_exchange group s.members s.heard ≡ None → s.trimmed ≡ 0

  before : (w : Option (CompleteExchange A)) → complete_exchange group s.members s.heard ≡ w → Kept_before → Before group s older h w
  before w e k =
      let known = known_log_of group older in
      let o = complete_exchange group s.members s.heard in
      let outer = and_parts (is_known_log_sound group older && keeps_kept known s.ring o) (is_log_length (known_log_length (known_log_of group (s ∷ older)))) k.sound in
      let inner = and_parts (is_known_log_sound group older) (keeps_kept known s.ring o) outer.0 in
      record {
        exch = e;
        old = inner.0;
        keeps = ap (keeps_kept known s.ring) (sym e) ∙ inner.1;
        short = ap (λ p. is_log_length (known_log_length (kept_base s.ring known p))) (sym e)
            ∙ ap is_log_length (sym (length-by s.ring known s.trimmed o (complete_exchange group s.members (messages_upto s.mark s.heard)))) ∙ outer.1;
        log = k.logged
            ∙ kept-log group s.members s.ring known s.trimmed s.heard (messages_upto s.mark s.heard) o (complete_exchange group s.members (messages_upto s.mark s.heard)) refl refl
            (upto-front s.mark s.heard);
        was = k.known;
        known = known-epoch group s older k.known inner.1 k.within;
      }

  -- the owner's snapshot and log are the stored ones
  owner-told : Kept_before → (new : Exchange A) → owner_due_on_heads (due_context this_moment) (known_log_of group (s ∷ older)) before_it new
      ≡ due_when_heads_complete delivery_context.me h.snapshot h.log before_it new
  owner-told k new =
      let now = known_log_of group (s ∷ older) in
      let same : now.trimmed ≡ h.log.trimmed = ap (λ (l : Log A). l.trimmed) (sym k.logged) in
      let bytes : bytes_at this_moment now ≡ h.snapshot =
      ap (λ n. if nat_lt h.log.trimmed n then now.snapshot else h.snapshot) same
      ∙ cond-false (nat_lt h.log.trimmed h.log.trimmed) now.snapshot h.snapshot (never-less h.log.trimmed) in
      ap (λ l. due_when_heads_complete delivery_context.me (bytes_at this_moment now) l before_it new) (sym k.logged)
      ∙ ap (λ bs. due_when_heads_complete delivery_context.me bs h.log before_it new) bytes

  past-is : uncommitted_places delivery_context.committed (retained_log (known_log_of group (with_message s x ∷ older))) ≡ past
  past-is =
      ap (uncommitted_places delivery_context.committed)
      (kept-log group s.members s.ring (known_log_of group older) s.trimmed text (messages_upto s.mark text) (complete_exchange group s.members text)
      (complete_exchange group s.members (messages_upto s.mark text)) refl refl (upto-front s.mark text))

  due-is : Kept_before → is_primary group s.members ≡ true → due ≡ (if delivery_context.runs then due_for (exchange_after_message before_it x) else [])
  due-is k p =
      let left : Exchange A → List (OneCall A) → List (Payload A) = λ new l. if is_exchange_complete new && not (is_exchange_complete before_it) then calls_to_resend pending l else [] in
      let past_places = uncommitted_places delivery_context.committed (retained_log (known_log_of group (with_message s x ∷ older))) in
      let made : Exchange A → List (Payload A) = λ new. owner_due_on_heads (due_context this_moment) (known_log_of group (s ∷ older)) before_it new ++ left new past_places in
      let new = exchange_after_message before_it x in
      sym (due-by delivery_context.runs (is_primary group s.members) (made (exchange_after_messages (exchange_opening s.members) text)) p)
      ∙ ap (λ e. if delivery_context.runs then made e else []) (exchange_after_messages-push (exchange_opening s.members) s.heard x)
      ∙ ap (λ l. if delivery_context.runs then l ++ left new past_places else []) (owner-told k new)
      ∙ ap (λ l. if delivery_context.runs then due_when_heads_complete delivery_context.me h.snapshot h.log before_it new ++ left new l else []) past-is

  complete_exchange-primary : (ys : List (Message A)) → is_primary group s.members ≡ true → complete_exchange group s.members ys ≡ complete_exchange_from (exchange_opening s.members) ys
  complete_exchange-primary ys p = cond-true (is_primary group s.members) (complete_exchange_from (exchange_opening s.members) ys) None p

  complete_exchange-apart : (ys : List (Message A)) → is_primary group s.members ≡ false → complete_exchange group s.members ys ≡ None
  complete_exchange-apart ys p = cond-false (is_primary group s.members) (complete_exchange_from (exchange_opening s.members) ys) None p

  stage-primary : is_primary group s.members ≡ true → (o : Option (CompleteExchange A)) → complete_exchange_from (exchange_opening s.members) text ≡ o
      → stage_by_exchange o (exchange_after_message before_it x) ≡ stage_in group s.members text
  stage-primary p o e =
      ap (stage_by_exchange o) (sym (exchange_after_messages-push (exchange_opening s.members) s.heard x))
      ∙ ap (λ (w : Option (CompleteExchange A)). stage_by_exchange w (exchange_after_messages (exchange_opening s.members) text)) (sym e)
      ∙ sym (cond-true (is_primary group s.members) (stage_by_exchange (complete_exchange_from (exchange_opening s.members) text) (exchange_after_messages (exchange_opening s.members) text)) NotPrimary p)

  abbrev Goal : ExchangeStage A → Type 0
  Goal stage = Hears group s older x h (message_effect delivery_context pending h stage x) due

  -- the owner's payloads alone
  abbrev places_due_now : Exchange A → List (Payload A)
  places_due_now new = if_runs delivery_context.runs (owner_asked delivery_context.me h (wanted before_it) (wanted (exchange_drained new)))

  epochs_with_message-open : (c : Bool) → is_exchange_complete (exchange_after_message before_it x) ≡ c → is_primary group s.members ≡ true → complete_exchange_from (exchange_opening s.members) s.heard ≡ None
      → Kept_before → delivery_context.ring ≡ s.ring → Goal (Exchanging before_it)
  epochs_with_message-open false c p none k ring =
      let e = before_it in
      let new = exchange_after_message e x in
      let open_yet : is_exchange_complete e ≡ false = none-open (exchange_opening s.members) s.heard (exchange_opening-open A s.members) none in
      let whole : CompleteExchange A = record { exchange = new; end = x.number; rest = [] } in
      let then_none : complete_exchange_from (exchange_opening s.members) text ≡ None = push-none (exchange_opening s.members) s.heard x none ∙ cond-false (is_exchange_complete new) (Some whole) None c in
      let base : base_at e x.sender x.payload ≡ None =
      cond-false (is_exchange_complete e) None (handed_out new) open_yet ∙ cond-false (is_exchange_complete new) (base_from (wanted new) new.bytes new.received_calls) None c in
      let here : complete_exchange group s.members s.heard ≡ None = complete_exchange-primary s.heard p ∙ none in
      let stated_due = due_when_heads_complete delivery_context.me h.snapshot h.log e new in
      let places_are : places_due_now new ++ [] ≡ due =
      append-nil (places_due_now new) ∙ ap (if_runs delivery_context.runs) (owner-is delivery_context.me h e x ∙ sym (append-nil stated_due)
      ∙ ap (λ b. stated_due ++ (if b && not (is_exchange_complete e) then calls_to_resend pending past else [])) (sym c))
      ∙ sym (due-is k p) in
      subst (λ (o : Option (Base A)). Hears group s older x h (base_effect delivery_context pending h (exchange_drained new) (places_due_now new) o) due) (sym base)
      (epochs_with_message-none group s older x h (Exchanging (exchange_drained new)) (places_due_now new ++ []) due (before None here k) (complete_exchange-primary text p ∙ then_none)
      (ap (λ r. Exchanging r) (exchange_drained-open new c) ∙ stage-primary p None then_none) refl places_are)
  epochs_with_message-open true c p none k ring =
      let e = before_it in
      let new = exchange_after_message e x in
      let open_yet : is_exchange_complete e ≡ false = none-open (exchange_opening s.members) s.heard (exchange_opening-open A s.members) none in
      let whole : CompleteExchange A = record { exchange = new; end = x.number; rest = [] } in
      let then_some : complete_exchange_from (exchange_opening s.members) text ≡ Some whole = push-none (exchange_opening s.members) s.heard x none
      ∙ cond-true (is_exchange_complete new) (Some whole) None c in
      let found = whole-base new c in
      let history_with_sends : handed_out new ≡ Some found.0 = cond-true (is_exchange_complete new) (base_from (wanted new) new.bytes new.received_calls) None c ∙ found.1 in
      let base_is : base_at e x.sender x.payload ≡ Some found.0 = cond-false (is_exchange_complete e) None (handed_out new) open_yet ∙ history_with_sends in
      let here : complete_exchange group s.members s.heard ≡ None = complete_exchange-primary s.heard p ∙ none in
      let early = none-front group s.members (messages_upto s.mark s.heard) s.heard (upto-front s.mark s.heard) here in
      let v = base-by (wanted new) new.bytes new.received_calls found.0 found.1 in
      let frozen = k.frozen p here in
      let b = before None here k in
      let short : (known_log_of group older).committed ≤ max_number =
      (let l = leb-true (known_log_length (known_log_of group older)) max_number b.short in
      let w = b.was in
      omega (arith, l, w.within)) in
      let stated_due = due_when_heads_complete delivery_context.me h.snapshot h.log e new in
      let due_now : places_due_now new ++ if_runs delivery_context.runs (calls_to_resend pending past) ≡ due =
      ap (λ l. if_runs delivery_context.runs l ++ if_runs delivery_context.runs (calls_to_resend pending past)) (owner-is delivery_context.me h e x)
      ∙ if_runs-append delivery_context.runs stated_due (calls_to_resend pending past)
      ∙ ap (λ l. if delivery_context.runs then stated_due ++ l else [])
      (sym (if-not (is_exchange_complete new) (is_exchange_complete e) (calls_to_resend pending past) [] open_yet ∙ cond-true (is_exchange_complete new) (calls_to_resend pending past) [] c))
      ∙ sym (due-is k p) in
      subst (λ (o : Option (Base A)). Hears group s older x h (base_effect delivery_context pending h (exchange_drained new) (places_due_now new) o) due) (sym base_is)
      (epochs_with_message-base group s older x delivery_context pending h new (places_due_now new) due b (complete_exchange-primary text p ∙ then_some)
      (stage-primary p (Some whole) then_some) ring frozen early short found.0 v.0 v.1 v.2 due_now)

  epochs_with_message-by : (b : Bool) (o : Option (CompleteExchange A)) → is_primary group s.members ≡ b → complete_exchange_from (exchange_opening s.members) s.heard ≡ o
      → Kept_before → delivery_context.ring ≡ s.ring → Goal (if b then stage_by_exchange o before_it else NotPrimary)
  epochs_with_message-by false o p e k ring =
      epochs_with_message-none group s older x h NotPrimary [] due (before None (complete_exchange-apart s.heard p) k) (complete_exchange-apart text p)
      (sym (cond-false (is_primary group s.members) (stage_by_exchange (complete_exchange_from (exchange_opening s.members) text) (exchange_after_messages (exchange_opening s.members) text)) NotPrimary p)) refl
      (no-due delivery_context.runs (is_primary group s.members) (owner_due_on_heads (due_context this_moment) (known_log_of group (s ∷ older)) before_it (exchange_after_messages (exchange_opening s.members) text)
      ++ due_when_complete (due_context this_moment) (with_message s x ∷ older) before_it (exchange_after_messages (exchange_opening s.members) text)) p)
  epochs_with_message-by true None p e k ring = epochs_with_message-open (is_exchange_complete (exchange_after_message before_it x)) refl p e k ring
  epochs_with_message-by true (Some w) p e k ring =
      let old = before_it in
      let new = exchange_after_message old x in
      let whole : is_exchange_complete old ≡ true = some-whole (exchange_opening s.members) s.heard w e in
      let then_some = push-some (exchange_opening s.members) s.heard x w e in
      let told : has_all_heads old ≡ true = eq-eqb old.missing_heads nobody (received_head old whole) in
      let calls = calls_to_resend pending past in
      let none : due_for new ≡ [] =
      ap (λ l. l ++ (if is_exchange_complete new && not (is_exchange_complete old) then calls else []))
      (if-never (has_all_heads new) (has_all_heads old) (owner_due delivery_context.me h.snapshot h.log (wanted new)) [] told)
      ∙ if-never (is_exchange_complete new) (is_exchange_complete old) calls [] whole in
      epochs_with_message-adopted group s older x delivery_context pending h w due (before (Some w) (complete_exchange-primary s.heard p ∙ e) k) (complete_exchange-primary text p ∙ then_some)
      (stage-primary p (Some (record w { rest = w.rest ++ x ∷ [] })) then_some)
      (sym (due-is k p ∙ same-nothing delivery_context.runs (due_for new) none))

  pub epochs_with_message-is : (stage : ExchangeStage A) → stage ≡ stage_in group s.members s.heard → Kept_before → delivery_context.ring ≡ s.ring → Goal stage
  epochs_with_message-is stage at k ring =
      subst Goal (sym at) (epochs_with_message-by (is_primary group s.members) (complete_exchange_from (exchange_opening s.members) s.heard) refl refl k ring)
