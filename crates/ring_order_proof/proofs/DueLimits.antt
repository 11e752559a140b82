-- What a node hands to its core keeps the limits: its Head, the pieces of its snapshot, the Parts of its log, and the calls of
-- its tickets.
use Rattle.std.proofs.Common.{◌≡◌, ℕ, ◌-◌, ◌≤◌, true, ◌==◌, not, inl, inr, List, [], ◌∷◌, ◌++◌, Option, Some, None, refl, sym, subst, arith}
use Rattle.std.specs.Prelude.{map, filter, length, nat_le, ◌&&◌}
use Rattle.std.specs.List.{AllByRecursion as Each}
use Rattle.std.proofs.lemmas.Bool.{cond_both, and_parts, leb-true}
use Rattle.ring_base.specs.Group.{Group, is_primary}
use Rattle.ring_base.specs.Numbers.{max_number}
use Rattle.ring_base.specs.declared.ring_id.RingId.{RingId}
use Rattle.ring_base.proofs.Each.{each-append, each-push, each-filter, each-drop}
use Rattle.ring_wire.specs.Rings.{RingFits}
use Rattle.ring_object.specs.Operations.{Sequential}
use Rattle.ring_payload.specs.Calls.{CallFits}
use Rattle.ring_payload.specs.Limits.{max_snapshot}
use Rattle.ring_payload.specs.Parts.{PartFits}
use Rattle.ring_payload.specs.Payloads.{PayloadFits}
use Rattle.ring_payload.specs.Snaps.{SnapFits}
use Rattle.ring_payload.specs.declared.call.Call.{Call as OneCall}
use Rattle.ring_payload.specs.declared.calls.Part.{Part as OnePart}
use Rattle.ring_payload.specs.declared.snap.Snap.{Snap as OneSnap}
use Rattle.ring_payload.specs.declared.content.Payload.{Payload}
use Rattle.ring_payload.specs.declared.content.Payload.TheVariants.{Call, Head, Part, Snap}
use Rattle.ring_wire.specs.declared.message.Message.{Message}
use Rattle.ring_core_spec.specs.declared.out.Out.{Out}
use Rattle.ring_core_spec.specs.declared.out.Out.TheVariants.{Send, Agreed, Safe, Trans, Rest, Regular}
use Rattle.ring_core_spec.specs.State.{Core}
use Rattle.ring_log.specs.declared.wanted.Wanted.{Wanted}
use Rattle.ring_log.specs.Exchanges.{Exchange, exchange_opening, wanted, is_exchange_complete}
use Rattle.ring_log.specs.KnownLog.{KnownLog, known_log_of, known_log_length, retained_log, known_log_head, keeps_kept, is_known_log_sound}
use Rattle.ring_log.specs.EpochHistories.{exchange_after_messages, complete_exchange}
use Rattle.ring_log.specs.Logs.{Log, is_log_length}
use Rattle.ring_log.specs.Parts.{parts_between, pieces_of}
use Rattle.ring_log.specs.Epochs.{Epoch, epoch_opening, epochs_with_message, epochs_with_mark, epochs_with_sends, epochs_with_trim}
use Rattle.ring_log_proof.specs.Discipline.{DropsOnlyCommitted}
use Rattle.ring_log_proof.specs.RingFacts.{HasEpoch}
use Rattle.ring_log_proof.specs.EpochEvents.{Agreed as AgreedEvent, Safe as SafeEvent, Regular as RegularEvent, IsRaised}
use Rattle.ring_log_proof.proofs.RunEpochs.{newest-dropping, event-dropping}
use Rattle.ring_session.specs.Tickets.{TicketCall, unanswered_tickets}
use Rattle.ring_session.specs.TicketsState.{contains_call}
use Rattle.ring_node_spec.specs.EpochHistories.{epochs_after}
use Rattle.ring_node_spec.specs.Nodes.{Node, node_known_log, node_pending, snapshot_kept, is_core_running_in}
use Rattle.ring_node_spec.specs.DueSends.{due_at_regular, has_all_heads, parts_due, snaps_due, is_snapshot_kept, places_due, owner_due, due_when_heads_complete}
use Rattle.ring_node_spec.specs.DueSends.{DueContext, node_context, calls_due, uncommitted_places, due_when_complete, owner_due_on_heads, due_between, due_in_epoch, due_at_agreed, due_of_outputs}
use Rattle.ring_order_proof.specs.NodeFits.{HeardFits, EpochFits, EpochsFit, IsMarkedUpTo, TicketsFit}
use Rattle.ring_order_proof.proofs.LogLimits.{ExchangeFits, stay_exchange, PlacesFit, WantedFits, wanted_fits, kept_fits, head_fits, parts_fit, pieces_fit}
use Rattle.ring_order_proof.proofs.OutputLimits.{Tells}

-- A life whose newest ring has this number

pub all_stays : {A : Type 0} → (n : ℕ) (epochs : List (Epoch A)) → EpochsFit n epochs → Each EpochFits epochs
all_stays n [] h = tt
all_stays n (s ∷ older) h = (h.0, h.2)

pub hands_fit : {A : Type 0} → (n : ℕ) (ps : List (Payload A)) (epochs : List (Epoch A)) → Each PayloadFits ps → EpochsFit n epochs → EpochsFit n (epochs_with_sends ps epochs)
hands_fit n ps [] f h = tt
hands_fit n ps (s ∷ older) f h =
    (record { ring = (h.0).ring; heard = (h.0).heard; sent = each-append PayloadFits s.sent ps (h.0).sent f }, h.1, h.2)

pub trims_fit : {A : Type 0} → (n places : ℕ) (epochs : List (Epoch A)) → EpochsFit n epochs → EpochsFit n (epochs_with_trim places epochs)
trims_fit n places [] h = tt
trims_fit n places (s ∷ older) h = (record { ring = (h.0).ring; heard = (h.0).heard; sent = (h.0).sent }, h.1, h.2)

hears_fits : {A : Type 0} → (n : ℕ) (x : Message A) (epochs : List (Epoch A)) → HeardFits n x → EpochsFit n epochs → EpochsFit n (epochs_with_message x epochs)
hears_fits n x [] f h = tt
hears_fits n x (s ∷ older) f h = (
  record {
    ring = (h.0).ring;
    heard = each-push (HeardFits s.ring.seq) s.heard x (h.0).heard (subst (λ k. HeardFits k x) (sym h.1) f);
    sent = (h.0).sent;
  },
  h.1,
  h.2,
)

marks_fits : {A : Type 0} → (n m : ℕ) (epochs : List (Epoch A)) → EpochsFit n epochs → EpochsFit n (epochs_with_mark m epochs)
marks_fits n m [] h = tt
marks_fits n m (s ∷ older) h = (record { ring = (h.0).ring; heard = (h.0).heard; sent = (h.0).sent }, h.1, h.2)

-- What is safe in the newest ring

hears_safe : {A : Type 0} → (low : ℕ) (x : Message A) (epochs : List (Epoch A)) → IsMarkedUpTo low epochs → IsMarkedUpTo low (epochs_with_message x epochs)
hears_safe low x [] h = tt
hears_safe low x (s ∷ older) h = h

marks_safe : {A : Type 0} → (m : ℕ) (epochs : List (Epoch A)) → IsMarkedUpTo m (epochs_with_mark m epochs)
marks_safe m [] = tt
marks_safe m (s ∷ older) = omega arith

pub hands_safe : {A : Type 0} → (low : ℕ) (ps : List (Payload A)) (epochs : List (Epoch A)) → IsMarkedUpTo low epochs → IsMarkedUpTo low (epochs_with_sends ps epochs)
hands_safe low ps [] h = tt
hands_safe low ps (s ∷ older) h = h

pub trims_safe : {A : Type 0} → (low places : ℕ) (epochs : List (Epoch A)) → IsMarkedUpTo low epochs → IsMarkedUpTo low (epochs_with_trim places epochs)
trims_safe low places [] h = tt
trims_safe low places (s ∷ older) h = h

rises_to : {A : Type 0} → (low upto : ℕ) (epochs : List (Epoch A)) → low ≤ upto → IsMarkedUpTo low epochs → IsRaised epochs upto
rises_to low upto [] le h = tt
rises_to low upto (s ∷ older) le h = omega (arith, le, h)

-- Dropped places

hears_drops : {A : Type 0} → (group : Group) (x : Message A) (epochs : List (Epoch A)) → DropsOnlyCommitted group epochs → DropsOnlyCommitted group (epochs_with_message x epochs)
hears_drops group x epochs h = event-dropping group epochs (AgreedEvent x) tt h

marks_drops : {A : Type 0} → (group : Group) (low m : ℕ) (epochs : List (Epoch A)) → low ≤ m → IsMarkedUpTo low epochs → DropsOnlyCommitted group epochs →
    DropsOnlyCommitted group (epochs_with_mark m epochs)
marks_drops group low m epochs le safe h = event-dropping group epochs (SafeEvent m) (rises_to low m epochs le safe) h

enters_drops : {A : Type 0} → (group : Group) (ring : RingId) (set : ℕ) (epochs : List (Epoch A)) → DropsOnlyCommitted group epochs →
    DropsOnlyCommitted group (epoch_opening ring set ∷ epochs)
enters_drops group ring set epochs h = event-dropping group epochs (RegularEvent ring set) tt h

pub hands_drop : {A : Type 0} → (group : Group) (ps : List (Payload A)) (epochs : List (Epoch A)) → DropsOnlyCommitted group epochs → DropsOnlyCommitted group (epochs_with_sends ps epochs)
hands_drop group ps [] h = h
hands_drop group ps (s ∷ older) h =
    newest-dropping group (record s { sent = s.sent ++ ps }) older (h s older (inl (refl, refl))) (λ u before i. h u before (inr i))

-- all committed places
pub trims_drop : {A : Type 0} → (group : Group) (places : ℕ) (epochs : List (Epoch A)) → places ≤ (known_log_of group epochs).committed → DropsOnlyCommitted group epochs →
    DropsOnlyCommitted group (epochs_with_trim places epochs)
trims_drop group places [] le h = h
trims_drop group places (s ∷ older) le h = newest-dropping group (record s { trimmed = places }) older le (λ u before i. h u before (inr i))

-- A life extended by outputs

pub record LivesFit {A : Type 0} (group : Group) (n low : ℕ) (epochs : List (Epoch A)) : Type 0 where
  pub stays : EpochsFit n epochs
  pub safe : IsMarkedUpTo low epochs
  pub drops : DropsOnlyCommitted group epochs

hears_on : {A : Type 0} → (group : Group) (n low : ℕ) (x : Message A) (epochs : List (Epoch A)) → HeardFits n x → LivesFit group n low epochs →
    LivesFit group n low (epochs_with_message x epochs)
hears_on group n low x epochs f h =
    record { stays = hears_fits n x epochs f h.stays; safe = hears_safe low x epochs h.safe; drops = hears_drops group x epochs h.drops }

marks_on : {A : Type 0} → (group : Group) (n low upto : ℕ) (epochs : List (Epoch A)) → low ≤ upto → LivesFit group n low epochs →
    LivesFit group n upto (epochs_with_mark upto epochs)
marks_on group n low upto epochs le h =
    record { stays = marks_fits n upto epochs h.stays; safe = marks_safe upto epochs; drops = marks_drops group low upto epochs le h.safe h.drops }

enters_on : {A : Type 0} → (group : Group) (n low : ℕ) (ring : RingId) (set : ℕ) (epochs : List (Epoch A)) → RingFits ring → LivesFit group n low epochs →
    LivesFit group ring.seq 0 (epoch_opening ring set ∷ epochs)
enters_on group n low ring set epochs f h =
    record {
      stays = (record { ring = f; heard = tt; sent = tt }, refl, all_stays n epochs h.stays);
      safe = omega arith;
      drops = enters_drops group ring set epochs h.drops;
    }

pub through_fits : {A : Type 0} → (group : Group) (n low m high : ℕ) (epochs : List (Epoch A)) (outs : List (Out A)) → Tells n low m high outs →
    LivesFit group n low epochs → LivesFit group m high (epochs_after epochs outs)
through_fits group n low m high epochs [] t h = subst (λ k. LivesFit group k high epochs) t.0 (subst (λ k. LivesFit group n k epochs) t.1 h)
through_fits group n low m high epochs (Agreed ring k x ∷ outs) t h =
    through_fits group n low m high (epochs_with_message x epochs) outs t.1 (hears_on group n low x epochs t.0 h)
through_fits group n low m high epochs (Safe ring upto ∷ outs) t h =
    through_fits group n upto m high (epochs_with_mark upto epochs) outs t.1 (marks_on group n low upto epochs t.0 h)
through_fits group n low m high epochs (Regular ring set ∷ outs) t h =
    through_fits group ring.seq 0 m high (epoch_opening ring set ∷ epochs) outs t.1 (enters_on group n low ring set epochs t.0 h)
through_fits group n low m high epochs (Send to frame ∷ outs) t h = through_fits group n low m high epochs outs t h
through_fits group n low m high epochs (Trans old new set ∷ outs) t h = through_fits group n low m high epochs outs t h
through_fits group n low m high epochs (Rest ring k x ∷ outs) t h = through_fits group n low m high epochs outs t h

-- A life that is sound in the end was sound before each ring

behind : {A : Type 0} → List (Epoch A) → List (Epoch A)
behind [] = []
behind (s ∷ older) = older

sound_older : {A : Type 0} → (group : Group) (epochs : List (Epoch A)) → is_known_log_sound group epochs ≡ true → is_known_log_sound group (behind epochs) ≡ true
unfolding behind
sound_older group [] h = h
sound_older group (s ∷ older) h =
    let keeps = keeps_kept (known_log_of group older) s.ring (complete_exchange group s.members s.heard) in
    let outer = and_parts (is_known_log_sound group older && keeps) (is_log_length (known_log_length (known_log_of group (s ∷ older)))) h in
    (and_parts (is_known_log_sound group older) keeps outer.0).0

behind_hears : {A : Type 0} → (x : Message A) (epochs : List (Epoch A)) → behind (epochs_with_message x epochs) ≡ behind epochs
unfolding behind
behind_hears x [] = refl
behind_hears x (s ∷ older) = refl

behind_marks : {A : Type 0} → (m : ℕ) (epochs : List (Epoch A)) → behind (epochs_with_mark m epochs) ≡ behind epochs
unfolding behind
behind_marks m [] = refl
behind_marks m (s ∷ older) = refl

sound_through : {A : Type 0} → (group : Group) (epochs : List (Epoch A)) (outs : List (Out A)) → is_known_log_sound group (epochs_after epochs outs) ≡ true →
    is_known_log_sound group (behind epochs) ≡ true
unfolding behind
sound_through group epochs [] h = sound_older group epochs h
sound_through group epochs (Agreed ring k x ∷ outs) h =
    subst (λ l. is_known_log_sound group l ≡ true) (behind_hears x epochs) (sound_through group (epochs_with_message x epochs) outs h)
sound_through group epochs (Safe ring upto ∷ outs) h =
    subst (λ l. is_known_log_sound group l ≡ true) (behind_marks upto epochs) (sound_through group (epochs_with_mark upto epochs) outs h)
sound_through group epochs (Regular ring set ∷ outs) h = sound_older group epochs (sound_through group (epoch_opening ring set ∷ epochs) outs h)
sound_through group epochs (Send to frame ∷ outs) h = sound_through group epochs outs h
sound_through group epochs (Trans old new set ∷ outs) h = sound_through group epochs outs h
sound_through group epochs (Rest ring k x ∷ outs) h = sound_through group epochs outs h

sound_before : {A : Type 0} → (group : Group) (ring : RingId) (set : ℕ) (epochs : List (Epoch A)) (outs : List (Out A)) →
    is_known_log_sound group (epochs_after (epoch_opening ring set ∷ epochs) outs) ≡ true → is_known_log_sound group epochs ≡ true
unfolding behind
sound_before group ring set epochs outs h = sound_through group (epoch_opening ring set ∷ epochs) outs h

-- Due payloads

any_each : {X Y : Type 0} (P : Y → Type 0) (Q : X → Type 0) (f : X → Y) (xs : List X) → ((x : X) → Q x → P (f x)) → Each Q xs → Each P (map f xs)
any_each P Q f [] h q = tt
any_each P Q f (x ∷ xs) h q = (h x q.0, any_each P Q f xs h q.1)

parts_due_fit : {A : Type 0} → (log : Log A) (w : Wanted) → Each CallFits log.calls → w.to ≤ max_number → Each PayloadFits (parts_due log w)
parts_due_fit {A} log w h most =
    any_each PayloadFits PartFits (λ (part : OnePart A). Part part) (parts_between log.trimmed log.calls w.from w.to) (λ part f. f)
    (parts_fit log.trimmed log.calls w.from w.to h most)

snaps_due_fit : (A : Type 0) → (at : ℕ) (bytes : List ℕ) → 1 ≤ at → at ≤ max_number → length bytes ≤ max_snapshot →
    Each (PayloadFits {A = A}) (snaps_due at bytes)
snaps_due_fit A at bytes some most short =
    any_each (PayloadFits {A = A}) SnapFits (λ (snap : OneSnap A). Snap snap) (pieces_of at bytes) (λ snap f. f) (pieces_fit A at bytes some most short)

-- the snapshot is sent only if it isn't too long
places_due_fit : {A : Type 0} → (bytes : List ℕ) (log : Log A) (w : Wanted) (o : Option ℕ) → Each CallFits log.calls → w.to ≤ max_number → PlacesFit o →
    Each PayloadFits (places_due bytes log w o)
places_due_fit {A} bytes log w None h most p =
    cond_both (nat_le log.trimmed w.from) (parts_due log w) [] (Each PayloadFits) (λ t. parts_due_fit log w h most) (λ e. tt)
places_due_fit {A} bytes log w (Some at) h most p =
    cond_both (is_snapshot_kept bytes log at) (snaps_due at bytes ++ parts_due log w) [] (Each PayloadFits)
    (λ t.
    let short = leb-true (length bytes) max_snapshot (and_parts (log.trimmed == at) (nat_le (length bytes) max_snapshot) t).1 in
    each-append PayloadFits (snaps_due at bytes) (parts_due log w) (snaps_due_fit A at bytes p.0 p.1 short) (parts_due_fit log w h most))
    (λ e. tt)

owner_due_fit : {A : Type 0} → (me : ℕ) (bytes : List ℕ) (log : Log A) (o : Option Wanted) → Each CallFits log.calls → WantedFits o →
    Each PayloadFits (owner_due me bytes log o)
owner_due_fit me bytes log None h w = tt
owner_due_fit {A} me bytes log (Some v) h w =
    cond_both (v.owner == me) (places_due bytes log v v.snapshot) [] (Each PayloadFits)
    (λ t. places_due_fit bytes log v v.snapshot h w.0 w.1) (λ e. tt)

stated_due_fit : {A : Type 0} → (me : ℕ) (bytes : List ℕ) (k : KnownLog A) (old new : Exchange A) → Each CallFits k.calls → ExchangeFits new →
    Each PayloadFits (due_when_heads_complete me bytes (retained_log k) old new)
stated_due_fit me bytes k old new h x =
    cond_both (has_all_heads new && not (has_all_heads old)) (owner_due me bytes (retained_log k) (wanted new)) [] (Each PayloadFits)
    (λ t. owner_due_fit me bytes (retained_log k) (wanted new) (each-drop CallFits (k.trimmed - k.from) k.calls h) (wanted_fits new x)) (λ e. tt)

calls_due_fit : {A : Type 0} → (tickets : List (TicketCall A)) (done calls : List (OneCall A)) → TicketsFit tickets →
    Each PayloadFits (calls_due (unanswered_tickets done tickets) calls)
calls_due_fit {A} tickets done calls h =
    let waiting = filter (λ (t : TicketCall A). not (contains_call calls t.call)) (unanswered_tickets done tickets) in
    any_each PayloadFits (λ (t : TicketCall A). CallFits t.call) (λ (t : TicketCall A). Call t.call) waiting (λ t f. f)
    (each-filter (λ (t : TicketCall A). CallFits t.call) (λ (t : TicketCall A). not (contains_call calls t.call)) (unanswered_tickets done tickets)
    (each-filter (λ (t : TicketCall A). CallFits t.call) _ tickets h))

module _ {O A : Type 0} (object : Sequential O) (n : Node A) (tickets : TicketsFit n.tickets) (core : Core A) where
  abbrev context : DueContext A
  context = node_context object n core

  due_between_fit : (before epochs : List (Epoch A)) (old new : Exchange A) → Each EpochFits before → ExchangeFits new →
      Each PayloadFits (due_between context before epochs old new)
  due_between_fit before epochs old new h x =
      let k = known_log_of n.group before in
      let past = uncommitted_places (node_known_log n).committed (retained_log (known_log_of n.group epochs)) in
      each-append PayloadFits (owner_due_on_heads context k old new) (due_when_complete context epochs old new)
      (stated_due_fit n.core.me (snapshot_kept object k) k old new (kept_fits n.group before h).calls x)
      (cond_both (is_exchange_complete new && not (is_exchange_complete old)) (calls_due (node_pending n) past) [] (Each PayloadFits)
      (λ e. calls_due_fit n.tickets n.done past tickets) (λ e. tt))

  agreed_due_fit : (q : ℕ) (ring : RingId) (epochs : List (Epoch A)) (x : Message A) (after : List (Epoch A)) → HeardFits q x → EpochsFit q epochs →
      Each PayloadFits (due_at_agreed object n core ring epochs x after)
  agreed_due_fit q ring [] x after f h = tt
  agreed_due_fit q ring (s ∷ older) x after f h =
      let old = exchange_after_messages (exchange_opening s.members) s.heard in
      let new = exchange_after_messages (exchange_opening s.members) (s.heard ++ x ∷ []) in
      let fits : ExchangeFits new =
      stay_exchange s.members s.ring.seq (s.heard ++ x ∷ [])
      (each-push (HeardFits s.ring.seq) s.heard x (h.0).heard (subst (λ q. HeardFits q x) (sym h.1) f)) in
      cond_both (is_core_running_in core ring) (due_in_epoch context s (s ∷ older) x after) [] (Each PayloadFits)
      (λ r. cond_both (is_primary n.group s.members) (due_between context (s ∷ older) after old new) [] (Each PayloadFits)
      (λ p. due_between_fit (s ∷ older) after old new (h.0, h.2) fits) (λ p. tt)) (λ r. tt)

  regular_due_fit : (set : ℕ) (epochs : List (Epoch A)) → Each EpochFits epochs → is_known_log_sound n.group epochs ≡ true → DropsOnlyCommitted n.group epochs →
      Each PayloadFits (due_at_regular n.group set epochs)
  regular_due_fit set epochs h sound drops =
      cond_both (is_primary n.group set) (Head (known_log_head (known_log_of n.group epochs)) ∷ []) [] (Each (PayloadFits {A = A}))
      (λ e. (head_fits n.group epochs h sound drops, tt)) (λ e. tt)

  pub due_fit : (q low m high : ℕ) (epochs : List (Epoch A)) (outs : List (Out A)) → Tells q low m high outs → LivesFit n.group q low epochs →
      is_known_log_sound n.group (epochs_after epochs outs) ≡ true → Each PayloadFits (due_of_outputs object n core epochs outs)
  due_fit q low m high epochs [] t h sound = tt
  due_fit q low m high epochs (Agreed ring k x ∷ outs) t h sound =
      each-append PayloadFits (due_at_agreed object n core ring epochs x (epochs_with_message x epochs)) (due_of_outputs object n core (epochs_with_message x epochs) outs)
      (agreed_due_fit q ring epochs x (epochs_with_message x epochs) t.0 h.stays) (due_fit q low m high (epochs_with_message x epochs) outs t.1 (hears_on n.group q low x epochs t.0 h) sound)
  due_fit q low m high epochs (Regular ring set ∷ outs) t h sound =
      each-append PayloadFits (due_at_regular n.group set epochs) (due_of_outputs object n core (epoch_opening ring set ∷ epochs) outs)
      (regular_due_fit set epochs (all_stays q epochs h.stays) (sound_before n.group ring set epochs outs sound) h.drops)
      (due_fit ring.seq 0 m high (epoch_opening ring set ∷ epochs) outs t.1 (enters_on n.group q low ring set epochs t.0 h) sound)
  due_fit q low m high epochs (Safe ring upto ∷ outs) t h sound =
      due_fit q upto m high (epochs_with_mark upto epochs) outs t.1 (marks_on n.group q low upto epochs t.0 h) sound
  due_fit q low m high epochs (Send to frame ∷ outs) t h sound = due_fit q low m high epochs outs t h sound
  due_fit q low m high epochs (Trans old new set ∷ outs) t h sound = due_fit q low m high epochs outs t h sound
  due_fit q low m high epochs (Rest ring k x ∷ outs) t h sound = due_fit q low m high epochs outs t h sound

-- Each epoch of such a life

pub stay_fits : {A : Type 0} → (epochs : List (Epoch A)) (s : Epoch A) (older : List (Epoch A)) → Each EpochFits epochs → HasEpoch epochs s older → EpochFits s
stay_fits [] s older h i = absurd i
stay_fits (t ∷ before) s older h (inl e) = subst EpochFits e.0 h.0
stay_fits (t ∷ before) s older h (inr i) = stay_fits before s older h.1 i
