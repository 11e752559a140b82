-- A node's knowledge of its log, from its own epochs only. It knows the places after the snapshot that it restored
-- last, if any, and how many places are committed and dropped. EpochHistories defines the same log from the epochs of
-- all nodes; `known_log_law` of ring_log_proof shows that the two agree.
-- Rules: The replicated log 6, 8, 9, 11, 12 and 20
use Rattle.std.specs.Prelude.{ℕ, ◌+◌, ◌-◌, ◌≤◌, max, Bool, true, ◌&&◌, ◌||◌, nat_le, nat_lt, is_some, if◌then◌else◌, List, [], ◌∷◌, ◌++◌, length, take, drop}
use Rattle.std.specs.Prelude.{Option, Some, None}
use Rattle.ring_base.specs.Group.{Group}
use Rattle.ring_base.specs.declared.ring_id.RingId.{RingId}
use Rattle.ring_wire.specs.Payloads.{Call as OneCall, Head as OneHead}
use Rattle.ring_log.specs.declared.wanted.Wanted.{Wanted}
use Rattle.ring_log.specs.Exchanges.{wanted}
use Rattle.ring_log.specs.Logs.{Log, begins, is_log_length}
use Rattle.ring_log.specs.Epochs.{Epoch}
use Rattle.ring_log.specs.EpochHistories.{CompleteExchange, complete_exchange, calls_in, messages_upto}

-- The places from `from` on; the committed and trimmed lengths, which include the places below `from`; the last
-- primary; and the snapshot of the places below `from`.
pub record KnownLog (A : Type 0) : Type 0 where
  pub from : ℕ
  pub calls : List (OneCall A)
  pub committed : ℕ
  pub trimmed : ℕ
  pub last : Option RingId
  pub snapshot : List ℕ

-- The known log at the opening: empty.
abbrev pub known_log_opening : {A : Type 0} → KnownLog A
known_log_opening = record { from = 0; calls = []; committed = 0; trimmed = 0; last = None; snapshot = [] }

-- The number of places.
abbrev pub known_log_length : {A : Type 0} → KnownLog A → ℕ
known_log_length k = k.from + length k.calls

-- The committed places that are known.
abbrev pub known_committed : {A : Type 0} → KnownLog A → List (OneCall A)
known_committed k = take (k.committed - k.from) k.calls

-- The committed places that aren't dropped.
abbrev pub known_retained : {A : Type 0} → KnownLog A → List (OneCall A)
known_retained k = drop (k.trimmed - k.from) (known_committed k)

-- No place below the first known one is kept, only committed places are dropped, and only places of the log are
-- committed.
pub record IsKnownLog {A : Type 0} (k : KnownLog A) : Type 0 where
  pub low : k.from ≤ k.trimmed
  pub high : k.trimmed ≤ k.committed
  pub within : k.committed ≤ known_log_length k

-- The known log after all epochs

-- A snapshot is restored if the node has committed fewer places than it replaces.
abbrev pub restores : {A : Type 0} → KnownLog A → Wanted → Bool
restores k w = is_some w.snapshot && nat_lt k.committed w.from

-- The known log after a complete exchange, given the bytes and the calls that it brought

-- The log after a snapshot is restored: its places are committed and dropped, and the calls brought follow.
abbrev pub known_log_restored : {A : Type 0} → RingId → Wanted → List ℕ → List (OneCall A) → KnownLog A
known_log_restored ring w bytes calls = record { from = w.from; calls = calls; committed = w.from; trimmed = w.from; last = Some ring; snapshot = bytes }

-- The first place that is taken of those brought: dropped places are skipped.
abbrev pub first_joined : {A : Type 0} → KnownLog A → Wanted → ℕ
first_joined k w = max w.from k.trimmed

-- The log's own places below the first that is taken, then those that are taken.
abbrev pub known_log_joined : {A : Type 0} → KnownLog A → RingId → Wanted → List (OneCall A) → KnownLog A
known_log_joined k ring w calls =
    record k { calls = take (first_joined k w - k.from) k.calls ++ drop (first_joined k w - w.from) calls; last = Some ring }

-- The known log after an adoption, restored or joined.
abbrev pub known_log_adopted : {A : Type 0} → KnownLog A → RingId → Wanted → List ℕ → List (OneCall A) → KnownLog A
known_log_adopted k ring w bytes calls = if restores k w then known_log_restored ring w bytes calls else known_log_joined k ring w calls

-- The known log after an adoption, if something is wanted; a complete exchange always wants something.
abbrev pub adopts_wanted : {A : Type 0} → KnownLog A → RingId → Option Wanted → CompleteExchange A → KnownLog A
adopts_wanted k ring None whole = k
adopts_wanted k ring (Some w) whole = known_log_adopted k ring w whole.exchange.bytes whole.exchange.received_calls

-- The known log after a complete exchange: its ring is adopted.
abbrev pub adopts : {A : Type 0} → KnownLog A → RingId → CompleteExchange A → KnownLog A
adopts k ring whole = adopts_wanted k ring (wanted whole.exchange) whole

-- The committed length rises to n; it never falls.
abbrev pub known_log_committed_upto : {A : Type 0} → ℕ → KnownLog A → KnownLog A
known_log_committed_upto n k = record k { committed = max k.committed n }

-- The length of a ring's log up to its safe mark.
abbrev pub watermark_by : {A : Type 0} → KnownLog A → Option (CompleteExchange A) → ℕ
watermark_by k None = 0
watermark_by k (Some whole) = known_log_length k + length (calls_in whole.rest)

-- The known log with these calls appended.
abbrev pub followed_by : {A : Type 0} → KnownLog A → List (OneCall A) → KnownLog A
followed_by k calls = record k { calls = k.calls ++ calls }

-- The base with the calls after the exchange, and with the committed length that the safe mark gives.
abbrev pub known_log_after_exchange : {A : Type 0} → KnownLog A → CompleteExchange A → Option (CompleteExchange A) → KnownLog A
known_log_after_exchange base whole safe = known_log_committed_upto (watermark_by base safe) (followed_by base (calls_in whole.rest))

-- The known log after an epoch, given the exchange in its messages and in its safe ones; unchanged before the first is
-- complete.
abbrev pub known_log_after_epoch : {A : Type 0} → RingId → KnownLog A → Option (CompleteExchange A) → Option (CompleteExchange A) → KnownLog A
known_log_after_epoch ring k None safe = k
known_log_after_epoch ring k (Some whole) safe = known_log_after_exchange (adopts k ring whole) whole safe

-- The known log after places are dropped at the end of a step; only committed ones are dropped.
abbrev pub dropped_by : {A : Type 0} → ℕ → KnownLog A → KnownLog A
dropped_by places k = record k { trimmed = max places k.trimmed }

-- The known log after these epochs.
abbrev pub known_log_of : {A : Type 0} → Group → List (Epoch A) → KnownLog A
known_log_of group [] = known_log_opening
known_log_of group (s ∷ older) =
    dropped_by s.trimmed (known_log_after_epoch s.ring (known_log_of group older) (complete_exchange group s.members s.heard) (complete_exchange group s.members (messages_upto s.mark s.heard)))

-- The log that the node keeps: without the dropped places.
abbrev pub retained_log : {A : Type 0} → KnownLog A → Log A
retained_log k = record { trimmed = k.trimmed; calls = drop (k.trimmed - k.from) k.calls; committed = k.committed; last = k.last }

-- The Head that a node states of its known log.
abbrev pub known_log_head : {A : Type 0} → KnownLog A → OneHead
known_log_head k = record { last = k.last; length = known_log_length k; committed = k.committed; trimmed = k.trimmed }

-- When a base stops a node

-- A base begins with the committed places that aren't dropped.
abbrev pub begins_kept : {A : Type 0} → KnownLog A → KnownLog A → Bool
begins_kept old new = begins (known_retained old) (drop (old.trimmed - new.from) new.calls)

-- A restored snapshot isn't compared; otherwise the places below those brought must be committed, and the base must
-- begin with the kept committed places.
abbrev pub keeps_wanted : {A : Type 0} → KnownLog A → RingId → Option Wanted → CompleteExchange A → Bool
keeps_wanted k ring None whole = true
keeps_wanted k ring (Some w) whole = restores k w || (nat_le w.from k.committed && begins_kept k (adopts k ring whole))

-- The same of a ring's exchange; true before it is complete.
abbrev pub keeps_kept : {A : Type 0} → KnownLog A → RingId → Option (CompleteExchange A) → Bool
keeps_kept k ring None = true
keeps_kept k ring (Some whole) = keeps_wanted k ring (wanted whole.exchange) whole

-- Each base begins with the places committed before it, and no log has more than `MAX` places.
abbrev pub is_known_log_sound : {A : Type 0} → Group → List (Epoch A) → Bool
is_known_log_sound group [] = true
is_known_log_sound group (s ∷ older) =
    is_known_log_sound group older
    && keeps_kept (known_log_of group older) s.ring (complete_exchange group s.members s.heard)
    && is_log_length (known_log_length (known_log_of group (s ∷ older)))
