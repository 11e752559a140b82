-- A node's log, its last primary and its committed places, as functions of its epochs, the rings that it installed.
-- Here a base is the places below the exchange's first one, then the places that the exchange brought. The former are
-- the node's own, or those of a snapshot that was sent. `adoption_law` of ring_log_proof shows for runs that these are
-- the owner's places, as The replicated log 16 says.
-- Rules: The replicated log 3, 6, 8, 9, 11, 12 and 16
use Rattle.std.specs.Prelude.{ℕ, zero, suc, max, Bool, true, false, ◌&&◌, ◌||◌, ◌==◌, nat_lt, nat_le, is_some, if◌then◌else◌, List, [], ◌∷◌, ◌++◌, length, take, map}
use Rattle.std.specs.Prelude.{Option, Some, None}
use Rattle.ring_base.specs.Group.{Group, is_primary}
use Rattle.ring_base.specs.Rings.{same_ring}
use Rattle.ring_base.specs.declared.ring_id.RingId.{RingId}
use Rattle.ring_wire.specs.Payloads.{Call as OneCall, Head as OneHead, calls_of}
use Rattle.ring_wire.specs.declared.message.Message.{Message}
use Rattle.ring_log.specs.declared.base.Base.{Base}
use Rattle.ring_log.specs.declared.wanted.Wanted.{Wanted}
use Rattle.ring_log.specs.Exchanges.{Exchange, exchange_opening, heard, is_exchange_complete, wanted, handed_out, exchange_drained}
use Rattle.ring_log.specs.Logs.{begins, is_log_length}
use Rattle.ring_log.specs.Epochs.{Epoch}

-- The exchange in the messages received in a ring

-- A complete exchange, the number of the message that completed it, and the messages after that one.
pub record CompleteExchange (A : Type 0) : Type 0 where
  pub exchange : Exchange A
  pub end : ℕ
  pub rest : List (Message A)

-- The exchange after a message.
abbrev pub exchange_after_message : {A : Type 0} → Exchange A → Message A → Exchange A
exchange_after_message e x = heard e x.sender x.payload

-- The complete exchange of the shortest prefix of the messages that completes it, and the messages after that prefix.
abbrev pub complete_exchange_from : {A : Type 0} → Exchange A → List (Message A) → Option (CompleteExchange A)
complete_exchange_from e [] = None
complete_exchange_from e (x ∷ xs) =
    if is_exchange_complete (exchange_after_message e x) then Some (record { exchange = exchange_after_message e x; end = x.number; rest = xs }) else complete_exchange_from (exchange_after_message e x) xs

-- The exchange after all messages, complete or not.
abbrev pub exchange_after_messages : {A : Type 0} → Exchange A → List (Message A) → Exchange A
exchange_after_messages e [] = e
exchange_after_messages e (x ∷ xs) = exchange_after_messages (exchange_after_message e x) xs

-- The state that a member keeps of the exchange after all messages: the base is handed out when the exchange completes.
abbrev pub drained_exchange_after : {A : Type 0} → Exchange A → List (Message A) → Exchange A
drained_exchange_after e [] = e
drained_exchange_after e (x ∷ xs) = drained_exchange_after (exchange_drained (exchange_after_message e x)) xs

-- The complete exchange of a ring of these members, given the messages received; none in a ring that isn't primary.
abbrev pub complete_exchange : {A : Type 0} → Group → ℕ → List (Message A) → Option (CompleteExchange A)
complete_exchange group members text = if is_primary group members then complete_exchange_from (exchange_opening members) text else None

-- The number of the message that completed an exchange.
abbrev pub end_by : {A : Type 0} → Option (CompleteExchange A) → Option ℕ
end_by None = None
end_by (Some w) = Some w.end

-- The number of the message that completed the exchange of a ring of these members; none before it is complete.
abbrev pub exchange_end : {A : Type 0} → Group → ℕ → List (Message A) → Option ℕ
exchange_end group members text = end_by (complete_exchange group members text)

-- The base of an exchange that is complete now and wasn't before.
abbrev pub base_ending : {A : Type 0} → Option (CompleteExchange A) → Option (CompleteExchange A) → Option (Base A)
base_ending (Some old) now = None
base_ending None None = None
base_ending None (Some w) = handed_out w.exchange

-- Log and last primary: the base of the newest adopted ring, and the calls received there after its exchange

-- The calls that messages bring.
abbrev pub calls_in : {A : Type 0} → List (Message A) → List (OneCall A)
calls_in [] = []
calls_in (x ∷ xs) = calls_of x.payload ++ calls_in xs

-- The places below those that the exchange brought: the snapshot's places if one was sent, otherwise the node's own.
abbrev pub places_below : {A : Type 0} → List (OneCall A) → List (OneCall A) → ℕ → Option ℕ → List (OneCall A)
places_below own front from None = take from own
places_below own front from (Some at) = front

-- Those places, and the calls brought after them; the node's own log if nothing is wanted.
abbrev pub base_on : {A : Type 0} → List (OneCall A) → List (OneCall A) → Option Wanted → List (OneCall A) → List (OneCall A)
base_on own front None calls = own
base_on own front (Some w) calls = places_below own front w.from w.snapshot ++ calls

-- The base that an exchange makes, given a node's own log.
abbrev pub own_base : {A : Type 0} → List (OneCall A) → List (OneCall A) → Exchange A → List (OneCall A)
own_base own front e = base_on own front (wanted e) e.received_calls

-- A log after a ring: its base and the calls after the exchange; unchanged before the exchange is complete.
abbrev pub log_by : {A : Type 0} → List (OneCall A) → List (OneCall A) → Option (CompleteExchange A) → List (OneCall A)
log_by old front None = old
log_by old front (Some w) = own_base old front w.exchange ++ calls_in w.rest

-- The log after these epochs, from the log's beginning.
abbrev pub log_of : {A : Type 0} → Group → List (Epoch A) → List (OneCall A)
log_of group [] = []
log_of group (s ∷ older) = log_by (log_of group older) s.front (complete_exchange group s.members s.heard)

-- The last primary after a ring: that ring once its exchange is complete, otherwise the one before.
abbrev pub last_by : {A : Type 0} → RingId → Option RingId → Option (CompleteExchange A) → Option RingId
last_by ring old None = old
last_by ring old (Some w) = Some ring

-- The last primary after these epochs, none before the first adoption.
abbrev pub last_of : {A : Type 0} → Group → List (Epoch A) → Option RingId
last_of group [] = None
last_of group (s ∷ older) = last_by s.ring (last_of group older) (complete_exchange group s.members s.heard)

-- The node adopted the ring: the ring is primary, and the node received its whole exchange.
abbrev pub has_adopted : {A : Type 0} → Group → List (Epoch A) → RingId → Bool
has_adopted group [] ring = false
has_adopted group (s ∷ older) ring = (same_ring s.ring ring && is_some (complete_exchange group s.members s.heard)) || has_adopted group older ring

-- Committed places: the longest log that the safe mark of a ring covers, exchange included

-- The messages with numbers up to a mark.
abbrev pub messages_upto : {A : Type 0} → ℕ → List (Message A) → List (Message A)
messages_upto mark [] = []
messages_upto mark (x ∷ xs) = if nat_le x.number mark then x ∷ messages_upto mark xs else []

-- The longer of two lists; the first if they are equally long.
abbrev pub longer_list : {X : Type 0} → List X → List X → List X
longer_list old new = if nat_lt (length old) (length new) then new else old

-- The committed places after a ring: the ring's log up to its safe mark, if that covers the exchange and this log is
-- longer; otherwise those before.
abbrev pub committed_by : {A : Type 0} → List (OneCall A) → List (OneCall A) → List (OneCall A) → Option (CompleteExchange A) → List (OneCall A)
committed_by own front old None = old
committed_by own front old (Some w) = longer_list old (own_base own front w.exchange ++ calls_in w.rest)

-- The places of a wanted snapshot, which are treated as committed once the ring is adopted; empty if none is wanted.
abbrev pub front_on : {A : Type 0} → List (OneCall A) → Option Wanted → List (OneCall A)
front_on front None = []
front_on front (Some w) = places_below [] front 0 w.snapshot

-- The longer of the places committed before and the places of the snapshot.
abbrev pub restored_by : {A : Type 0} → List (OneCall A) → List (OneCall A) → Option (CompleteExchange A) → List (OneCall A)
restored_by front old None = old
restored_by front old (Some w) = longer_list old (front_on front (wanted w.exchange))

-- The committed places after these epochs, from the log's beginning.
abbrev pub committed_of : {A : Type 0} → Group → List (Epoch A) → List (OneCall A)
committed_of group [] = []
committed_of group (s ∷ older) =
    committed_by (log_of group older) s.front (restored_by s.front (committed_of group older) (complete_exchange group s.members s.heard))
    (complete_exchange group s.members (messages_upto s.mark s.heard))

-- The trimmed length: as a step or a restored snapshot set it

-- The trimmed length after an adoption: a node restores if it has committed fewer places than the snapshot replaces.
abbrev pub trimmed_on : ℕ → ℕ → Option Wanted → ℕ
trimmed_on trimmed committed None = trimmed
trimmed_on trimmed committed (Some w) = if is_some w.snapshot && nat_lt committed w.from then w.from else trimmed

-- The trimmed length after a ring's exchange; unchanged before it is complete.
abbrev pub trimmed_by : {A : Type 0} → ℕ → ℕ → Option (CompleteExchange A) → ℕ
trimmed_by trimmed committed None = trimmed
trimmed_by trimmed committed (Some w) = trimmed_on trimmed committed (wanted w.exchange)

-- The trimmed length after these epochs.
abbrev pub trimmed_of : {A : Type 0} → Group → List (Epoch A) → ℕ
trimmed_of group [] = 0
trimmed_of group (s ∷ older) = max s.trimmed (trimmed_by (trimmed_of group older) (length (committed_of group older)) (complete_exchange group s.members s.heard))

-- The Head that a node states of its log.
abbrev pub head_of_epochs : {A : Type 0} → Group → List (Epoch A) → OneHead
head_of_epochs group epochs =
    record { last = last_of group epochs; length = length (log_of group epochs); committed = length (committed_of group epochs); trimmed = trimmed_of group epochs }

-- The base of a ring, for all nodes at once: the owner's log when it sent its Head

-- The epochs before the ring of this number; ring numbers rise from epoch to epoch.
abbrev pub older_at : {A : Type 0} → ℕ → List (Epoch A) → List (Epoch A)
older_at number [] = []
older_at number (s ∷ older) = if s.ring.seq == number then older else older_at number older

-- The log that the owner had before the ring; empty if nothing is wanted.
abbrev pub owner_log : {A : Type 0} → Group → (ℕ → List (Epoch A)) → RingId → Option Wanted → List (OneCall A)
owner_log group node_epochs ring None = []
owner_log group node_epochs ring (Some w) = log_of group (older_at ring.seq (node_epochs w.owner))

-- The base of a ring, by its exchange.
abbrev pub base_of : {A : Type 0} → Group → (ℕ → List (Epoch A)) → RingId → Exchange A → List (OneCall A)
base_of group node_epochs ring e = owner_log group node_epochs ring (wanted e)

-- A ring's log after these messages: its base, and the calls after the exchange; none before the exchange is complete.
abbrev pub ring_log_by : {A : Type 0} → Group → (ℕ → List (Epoch A)) → RingId → Option (CompleteExchange A) → Option (List (OneCall A))
ring_log_by group node_epochs ring None = None
ring_log_by group node_epochs ring (Some w) = Some (base_of group node_epochs ring w.exchange ++ calls_in w.rest)

-- The log of a ring of these members after these messages; none if they aren't primary or the exchange isn't complete.
abbrev pub ring_log : {A : Type 0} → Group → (ℕ → List (Epoch A)) → RingId → ℕ → List (Message A) → Option (List (OneCall A))
ring_log group node_epochs ring members text = ring_log_by group node_epochs ring (complete_exchange group members text)

-- When a base stops a node

-- The places below those brought are known: they are committed, or the snapshot that was sent replaces this number of
-- places.
abbrev pub is_known_below : {A : Type 0} → List (OneCall A) → List (OneCall A) → ℕ → Option ℕ → Bool
is_known_below front committed from None = nat_le from (length committed)
is_known_below front committed from (Some at) = length front == from

-- The places below those wanted are known; true if nothing is wanted.
abbrev pub is_known_on : {A : Type 0} → List (OneCall A) → List (OneCall A) → Option Wanted → Bool
is_known_on front committed None = true
is_known_on front committed (Some w) = is_known_below front committed w.from w.snapshot

-- A ring's complete exchange has known places below, and its base begins with the places committed before.
abbrev pub keeps_committed : {A : Type 0} → List (OneCall A) → List (OneCall A) → List (OneCall A) → Option (CompleteExchange A) → Bool
keeps_committed own front committed None = true
keeps_committed own front committed (Some w) = is_known_on front committed (wanted w.exchange) && begins committed (own_base own front w.exchange)

-- Each base begins with the places committed before it, and no log has more than `MAX` places.
abbrev pub is_sound : {A : Type 0} → Group → List (Epoch A) → Bool
is_sound group [] = true
is_sound group (s ∷ older) =
    is_sound group older
    && keeps_committed (log_of group older) s.front (committed_of group older) (complete_exchange group s.members s.heard)
    && is_log_length (length (log_of group (s ∷ older)))

-- The places that the snapshots in all nodes' epochs replace, ring by ring: a prefix of the log that the owner had when
-- it sent its Head

-- A processor's epochs, in which each ring's snapshot places are filled in, by processor and ring number.
abbrev pub epochs_with_snapshots : {A : Type 0} → (ℕ → ℕ → List (OneCall A)) → ℕ → List (Epoch A) → List (Epoch A)
epochs_with_snapshots fronts p epochs = map (λ (s : Epoch _). record s { front = fronts p s.ring.seq }) epochs

-- The places of the snapshot wanted in this ring: the first `at` places of the log that the owner had before the ring.
abbrev pub front_wanted : {A : Type 0} → Group → (ℕ → List (Epoch A)) → (ℕ → ℕ → List (OneCall A)) → ℕ → Wanted → Option ℕ → List (OneCall A)
front_wanted group node_epochs fronts number w None = []
front_wanted group node_epochs fronts number w (Some at) = take at (log_of group (epochs_with_snapshots fronts w.owner (older_at number (node_epochs w.owner))))

-- The places of the snapshot in this ring; empty if nothing is wanted.
abbrev pub front_by : {A : Type 0} → Group → (ℕ → List (Epoch A)) → (ℕ → ℕ → List (OneCall A)) → ℕ → Option Wanted → List (OneCall A)
front_by group node_epochs fronts number None = []
front_by group node_epochs fronts number (Some w) = front_wanted group node_epochs fronts number w w.snapshot

-- The places of the snapshot in this ring; empty before its exchange is complete.
abbrev pub front_after : {A : Type 0} → Group → (ℕ → List (Epoch A)) → (ℕ → ℕ → List (OneCall A)) → ℕ → Option (CompleteExchange A) → List (OneCall A)
front_after group node_epochs fronts number None = []
front_after group node_epochs fronts number (Some w) = front_by group node_epochs fronts number (wanted w.exchange)

-- The places of the snapshot that the node received in the ring of this number.
abbrev pub front_in : {A : Type 0} → Group → (ℕ → List (Epoch A)) → (ℕ → ℕ → List (OneCall A)) → ℕ → List (Epoch A) → List (OneCall A)
front_in group node_epochs fronts number [] = []
front_in group node_epochs fronts number (s ∷ older) =
    if s.ring.seq == number then front_after group node_epochs fronts number (complete_exchange group s.members s.heard) else front_in group node_epochs fronts number older

-- The places of the snapshot that a processor received in a ring, for all rings below a bound.
abbrev pub fronts_below : {A : Type 0} → Group → (ℕ → List (Epoch A)) → ℕ → ℕ → ℕ → List (OneCall A)
fronts_below group node_epochs zero p number = []
fronts_below group node_epochs (suc bound) p number =
    if number == bound then front_in group node_epochs (fronts_below group node_epochs bound) number (node_epochs p) else fronts_below group node_epochs bound p number

-- A processor's epochs, with the snapshot places of its rings below a bound filled in.
abbrev pub whole_epochs : {A : Type 0} → Group → (ℕ → List (Epoch A)) → ℕ → ℕ → List (Epoch A)
whole_epochs group node_epochs bound p = epochs_with_snapshots (fronts_below group node_epochs bound) p (node_epochs p)
