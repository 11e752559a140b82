-- The visits of one ring, round its members, and what two successive visits of one member make safe.
-- Rules: Token and window 13
use Rattle.std.specs.Prelude.{◌≡◌, ℕ, ◌≤◌, ◌<◌, ◌%◌, ◌==◌, if◌then◌else◌, List, [], ◌∷◌, ◌++◌, length}
use Rattle.std.specs.List.{AllByRecursion}
use Rattle.ring_base.specs.Processors.{IsProc, IsMember, at, size}
use Rattle.ring_base.specs.declared.ring_id.RingId.{RingId}
use Rattle.ring_wire.specs.declared.token.Token.{Token}
use Rattle.ring_token.specs.TokenVisits.{TokenVisit, first_token, mark_from_arus}
use Rattle.ring_token.specs.Visits.{token_after}

-- A visit by a processor.
pub record VisitBy (A : Type 0) : Type 0 where
  pub who : ℕ
  pub turn : TokenVisit A

-- The token after the visits, newest first; before them, the ring's first token.
abbrev pub token_arrived : {A : Type 0} → RingId → List (VisitBy A) → Token
token_arrived ring [] = first_token ring
token_arrived ring (v ∷ vs) = v.turn.forwarded

-- v is the next visit after vs. Its token is the one forwarded last, its member is the one whose turn it is, and the
-- rules of a visit hold. No number above the token's `seq` is held after it.
pub record IsNextVisit {A : Type 0} (members : ℕ) (ring : RingId) (v : VisitBy A) (vs : List (VisitBy A)) : Type 0 where
  pub comes : v.turn.received ≡ token_arrived ring vs
  pub turn : v.who ≡ at members (length vs % size members)
  pub within : v.turn.front ≤ v.turn.forwarded.seq
  pub goes : v.turn.forwarded ≡ token_after v.who v.turn.front (length v.turn.fresh) v.turn.forwarded.requests v.turn.received

-- The visits of a ring, newest first.
abbrev pub AreVisits : {A : Type 0} → ℕ → RingId → List (VisitBy A) → Type 0
AreVisits members ring [] = Unit {0}
AreVisits members ring (v ∷ vs) = IsNextVisit members ring v vs × AreVisits members ring vs

-- The `aru` values that a processor forwarded, newest first.
abbrev pub forwarded_by : {A : Type 0} → ℕ → List (VisitBy A) → List ℕ
forwarded_by i [] = []
forwarded_by i (v ∷ vs) = if v.who == i then v.turn.forwarded.aru ∷ forwarded_by i vs else forwarded_by i vs

-- Fronts never fall: each processor's front is at least its front at each of its visits.
abbrev pub FrontsHaveGrown : {A : Type 0} → (ℕ → ℕ) → List (VisitBy A) → Type 0
FrontsHaveGrown front vs = AllByRecursion (λ (v : VisitBy _). v.turn.front ≤ front v.who) vs

-- Token and window 13: a number is safe if every member's front has reached it.
abbrev pub IsSafeIn : ℕ → (ℕ → ℕ) → ℕ → Type 0
IsSafeIn members front s = (p : ℕ) → IsProc p → IsMember members p → s ≤ front p

-- Every number up to a safe mark is safe.
abbrev pub MarksAreSafe : Type 0 → Type 0
MarksAreSafe A =
    (members : ℕ) (ring : RingId) (visits : List (VisitBy A)) (front : ℕ → ℕ) → 0 < size members → AreVisits members ring visits → FrontsHaveGrown front visits →
    (i : ℕ) → IsSafeIn members front (mark_from_arus (forwarded_by i visits))

-- Every number up to both of two successive `aru` values forwarded by one processor is safe.
abbrev pub PairsAreSafe : Type 0 → Type 0
PairsAreSafe A =
    (members : ℕ) (ring : RingId) (visits : List (VisitBy A)) (front : ℕ → ℕ) → 0 < size members → AreVisits members ring visits → FrontsHaveGrown front visits →
    (i s later earlier : ℕ) (newer older : List ℕ) → forwarded_by i visits ≡ newer ++ later ∷ earlier ∷ older
    → s ≤ later → s ≤ earlier → IsSafeIn members front s
