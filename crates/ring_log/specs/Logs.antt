-- A node's log and its changes.
-- Rules: The replicated log 1, 2, 6, 8, 9, 11, 12 and 20
use Rattle.std.specs.Prelude.{ℕ, ◌+◌, ◌-◌, ◌≤◌, max, min, Bool, ◌&&◌, ◌||◌, nat_le, nat_lt, if◌then◌else◌, List, [], ◌∷◌, ◌++◌, length, take, drop}
use Rattle.std.specs.Prelude.{Option, Some, None, is_some}
use Rattle.std.specs.Cmp.Lexicographic.{pointwise}
use Rattle.ring_base.specs.Prefixes.{IsListPrefix}
use Rattle.ring_base.specs.Numbers.{max_number}
use Rattle.ring_base.specs.declared.ring_id.RingId.{RingId}
use Rattle.ring_wire.specs.Payloads.{Call as OneCall, Head, is_same}
use Rattle.ring_log.specs.declared.base.Base.{Base}

-- A log: the number of dropped places, the calls of the other places, the number of committed places, and the last
-- primary; places are counted from the log's beginning.
pub record Log (A : Type 0) : Type 0 where
  pub trimmed : ℕ
  pub calls : List (OneCall A)
  pub committed : ℕ
  pub last : Option RingId

-- The log at the opening.
abbrev pub log_opening : {A : Type 0} → Log A
log_opening = record { trimmed = 0; calls = []; committed = 0; last = None }

-- The number of places, dropped ones included.
abbrev pub log_length : {A : Type 0} → Log A → ℕ
log_length log = log.trimmed + length log.calls

-- The log with these calls appended.
abbrev pub appended : {A : Type 0} → Log A → List (OneCall A) → Log A
appended log calls = record log { calls = log.calls ++ calls }

-- Adopting a base

-- The log after a snapshot of the first `base.from` places is restored: they are dropped and committed, and the base's
-- calls follow.
abbrev pub restored_log : {A : Type 0} → Log A → RingId → Base A → Log A
restored_log log ring base = record { trimmed = base.from; calls = base.calls; committed = base.from; last = Some ring }

-- The kept places below the base's first one, then the base's calls without those of dropped places.
abbrev pub calls_after_base : {A : Type 0} → Log A → Base A → List (OneCall A)
calls_after_base log base = take (base.from - log.trimmed) log.calls ++ drop (log.trimmed - base.from) base.calls

-- A snapshot is restored if the log has fewer committed places than it replaces.
abbrev pub restores : {A : Type 0} → Log A → Base A → Bool
restores log base = is_some base.snapshot && nat_lt log.committed base.from

-- The log after a base that doesn't restore it: its own places below the base stay.
abbrev pub joined_log : {A : Type 0} → Log A → RingId → Base A → Log A
joined_log log ring base = record log { calls = calls_after_base log base; last = Some ring }

-- The log after adopting this ring's base.
abbrev pub log_after_base : {A : Type 0} → Log A → RingId → Base A → Log A
log_after_base log ring base = if restores log base then restored_log log ring base else joined_log log ring base

-- The log after its committed places are dropped.
abbrev pub trimmed_log : {A : Type 0} → Log A → Log A
trimmed_log log = record log { trimmed = log.committed; calls = drop (log.committed - log.trimmed) log.calls }

-- The number of kept committed places at which they are dropped.
abbrev pub trim_after : ℕ
trim_after = 256

-- The committed places are to be dropped: the log keeps `trim_after` or more of them.
abbrev pub is_due_to_trim : {A : Type 0} → Log A → Bool
is_due_to_trim log = nat_le trim_after (log.committed - log.trimmed)

-- The committed length rises to n, but not above the log's length; it never falls.
abbrev pub committed_upto : {A : Type 0} → Log A → ℕ → Log A
committed_upto log n = record log { committed = max log.committed (min n (log_length log)) }

-- The committed places that are kept.
abbrev pub committed_calls : {A : Type 0} → Log A → List (OneCall A)
committed_calls log = take (log.committed - log.trimmed) log.calls

-- The log of only the kept committed places.
abbrev pub committed_log : {A : Type 0} → Log A → Log A
committed_log log = record log { calls = committed_calls log }

-- The Head that a node states of its log.
abbrev pub head_of : {A : Type 0} → Log A → Head
head_of log = record { last = log.last; length = log_length log; committed = log.committed; trimmed = log.trimmed }

-- When a base or a call stops a node

-- The second list of calls begins with the first.
abbrev pub begins : {A : Type 0} → List (OneCall A) → List (OneCall A) → Bool
begins front calls = pointwise (λ (c : OneCall _) (d : OneCall _). is_same d c) front (take (length front) calls)

-- A log may have n places.
abbrev pub is_log_length : ℕ → Bool
is_log_length n = nat_le n max_number

-- A base may be adopted: it restores the log, or leaves no hole and begins with the kept committed places; and the
-- result isn't too long. Whether the bytes are a snapshot is checked by the sessions.
abbrev pub is_adoptable : {A : Type 0} → Log A → Base A → Bool
is_adoptable log base =
    (restores log base || (nat_le base.from log.committed && begins (committed_calls log) (calls_after_base log base)))
    && is_log_length (base.from + length base.calls)

-- The log after a base, which is adopted if it may be.
abbrev pub log_after_base_if_may : {A : Type 0} → Log A → RingId → Base A → Log A
log_after_base_if_may log ring base = if is_adoptable log base then log_after_base log ring base else log

-- The log with these calls appended, if there is room for all of them.
abbrev pub log_with_calls_if_room : {A : Type 0} → Log A → List (OneCall A) → Log A
log_with_calls_if_room log calls = if is_log_length (log_length log + length calls) then appended log calls else log

-- Invariants

-- Only committed places are dropped, only places of the log are committed, and there are at most `max_number` places.
abbrev pub IsKeptLog : ℕ → ℕ → ℕ → Type 0
IsKeptLog trimmed committed kept = (trimmed ≤ committed) × (committed ≤ trimmed + kept) × (trimmed + kept ≤ max_number)

-- Only committed places are dropped, and no more places are committed than there are.
abbrev pub IsLog : {A : Type 0} → Log A → Type 0
IsLog log = (log.trimmed ≤ log.committed) × (log.committed ≤ log_length log)

-- The new log is well formed, its trimmed and committed lengths are no less, and its committed places begin with the
-- old ones that aren't dropped.
pub record KeepsCommitted {A : Type 0} (old new : Log A) : Type 0 where
  pub log : IsLog new
  pub trimmed : old.trimmed ≤ new.trimmed
  pub committed : old.committed ≤ new.committed
  pub front : IsListPrefix (drop (new.trimmed - old.trimmed) (committed_calls old)) (committed_calls new)
