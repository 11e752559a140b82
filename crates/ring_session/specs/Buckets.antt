-- The positions of unanswered tickets by the bucket of their call, so that a committed call is searched for only in its
-- bucket; and the tickets whose calls were committed before.
-- Rules: The replicated log 13 to 15
use Rattle.std.specs.Prelude.{◌≡◌, ℕ, ◌+◌, ◌*◌, ◌%◌, ◌==◌, ◌<◌, ◌≤◌, ◌||◌, Bool, false, List, [], ◌∷◌, drop, slice_get, slice_index, slice_index_or}
use Rattle.std.specs.Prelude.{Some, if◌then◌else◌}
use Rattle.ring_payload.specs.declared.call.Call.{Call}
use Rattle.ring_session.specs.declared.pending_ticket.PendingTicket.{PendingTicket}
use Rattle.ring_session.specs.SessionAnswer.{is_same}
use Rattle.ring_session.specs.TicketsState.{contains_call}

-- The bucket of a call, one of 256. Successive calls of one client are in different buckets, and the calls of different
-- clients begin far apart.
abbrev pub bucket_of : {A : Type 0} → Call A → ℕ
bucket_of c = (c.client % 256 * 157 + c.number % 256) % 256

-- The first position of a bucket, for tickets with positions from i on, or the end of the tickets if the bucket is
-- empty.
abbrev pub first_in_bucket_from : {A : Type 0} → ℕ → ℕ → List (PendingTicket A) → ℕ
first_in_bucket_from b i [] = i
first_in_bucket_from b i (p ∷ ps) = if bucket_of p.call == b then i else first_in_bucket_from b (i + 1) ps

-- The chains of the tickets from position i on: the first position of each bucket, and for each position the next one
-- in its bucket.
pub record AreChained {A : Type 0} (firsts nexts : List ℕ) (i : ℕ) (pending : List (PendingTicket A)) : Type 0 where
  pub first : (b : ℕ) → b < 256 → slice_index firsts b ≡ first_in_bucket_from b i (drop i pending)
  pub next : (j : ℕ) → (p : PendingTicket A) → i ≤ j → slice_get pending j ≡ Some p
      → slice_index nexts j ≡ first_in_bucket_from (bucket_of p.call) (j + 1) (drop (j + 1) pending)

-- The marked tickets are exactly those whose call is among the calls done before.
abbrev pub AreCommitted : {A : Type 0} → List Bool → List (Call A) → List (PendingTicket A) → Type 0
AreCommitted {A} gone before pending = (j : ℕ) → (p : PendingTicket A) → slice_get pending j ≡ Some p → slice_index_or gone j false ≡ contains_call before p.call

-- The same, with one more call for the tickets before position i.
pub record AreCommittedTo {A : Type 0} (gone : List Bool) (before : List (Call A)) (c : Call A) (i : ℕ) (pending : List (PendingTicket A)) : Type 0 where
  pub behind : (j : ℕ) → (p : PendingTicket A) → slice_get pending j ≡ Some p → j < i → slice_index_or gone j false ≡ (contains_call before p.call || is_same p.call c)
  pub ahead : (j : ℕ) → (p : PendingTicket A) → slice_get pending j ≡ Some p → i ≤ j → slice_index_or gone j false ≡ contains_call before p.call

-- None of the tickets at the positions from i to before k is of the call.
abbrev pub HasNoTicketOf : {A : Type 0} → Call A → ℕ → ℕ → List (PendingTicket A) → Type 0
HasNoTicketOf {A} c i k pending = (j : ℕ) → (p : PendingTicket A) → slice_get pending j ≡ Some p → i ≤ j → j < k → is_same p.call c ≡ false

-- The ticket at position i, if any, is in the call's bucket.
abbrev pub IsInBucketOf : {A : Type 0} → Call A → ℕ → List (PendingTicket A) → Type 0
IsInBucketOf {A} c i pending = (p : PendingTicket A) → slice_get pending i ≡ Some p → bucket_of p.call ≡ bucket_of c
