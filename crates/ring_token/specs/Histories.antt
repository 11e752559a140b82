-- All that a member did with the tokens of one ring, as contracts see it, and the three numbers that the code keeps of
-- it.
-- Rules: Token and window 3, 6, 7 and 10
use Rattle.std.specs.Prelude.{◌≡◌, ℕ, suc, max, List, [], ◌∷◌, length}
use Rattle.std.specs.List.{AllByRecursion}
use Rattle.ring_base.specs.declared.ring_id.RingId.{RingId}
use Rattle.ring_wire.specs.Messages.{Payload}
use Rattle.ring_wire.specs.declared.token.Token.{Token}
use Rattle.ring_token.specs.TokenVisits.{TokenVisit, MarkRaise, safe_mark}
use Rattle.ring_token.specs.Visits.{token_after}

-- A member, a ring, its visits, and the marks to which its safe mark was raised; both lists newest first.
pub record TokenHistory (A : Type 0) : Type 0 where
  pub me : ℕ
  pub ring : RingId
  pub turns : List (TokenVisit A)
  pub raises : List MarkRaise

-- The history before any visit.
abbrev pub without_visits : {A : Type 0} → ℕ → RingId → TokenHistory A
without_visits me ring = record { me = me; ring = ring; turns = []; raises = [] }

-- A visit of the token: the token received, the front with the new messages held, these messages, and the token
-- forwarded with these requests.
abbrev pub visit_made : {A : Type 0} → ℕ → ℕ → List (Payload A) → List ℕ → Token → TokenVisit A
visit_made me front fresh requests t = record { received = t; front = front; fresh = fresh; forwarded = token_after me front (length fresh) requests t }

-- The history after one more visit.
abbrev pub history_with_visit : {A : Type 0} → TokenHistory A → TokenVisit A → TokenHistory A
history_with_visit h turn = record h { turns = turn ∷ h.turns }

-- The history after the safe mark is raised.
abbrev pub history_with_raise : {A : Type 0} → TokenHistory A → ℕ → TokenHistory A
history_with_raise h mark = record h { raises = record { ring = h.ring; mark = mark } ∷ h.raises }

-- The safe mark of the ring.
abbrev pub mark_of : {A : Type 0} → TokenHistory A → ℕ
mark_of h = safe_mark h.turns h.raises h.ring

-- What the code keeps

-- The least number that the next accepted token may have: above that of each visited token.
abbrev pub next_number : {A : Type 0} → List (TokenVisit A) → ℕ
next_number [] = 0
next_number (v ∷ turns) = max (suc v.received.number) (next_number turns)

-- The `aru` that the last visit forwarded, 0 before the first.
abbrev pub last_aru : {A : Type 0} → List (TokenVisit A) → ℕ
last_aru [] = 0
last_aru (v ∷ turns) = v.forwarded.aru

-- The visits and raises are all of one ring, and the three kept numbers are those of the history.
pub record IsTokenKept {A : Type 0} (h : TokenHistory A) (next aru safe : ℕ) : Type 0 where
  pub turns_in : AllByRecursion (λ (v : TokenVisit A). v.received.ring ≡ h.ring) h.turns
  pub raises_in : AllByRecursion (λ (x : MarkRaise). x.ring ≡ h.ring) h.raises
  pub next_is : next ≡ next_number h.turns
  pub aru_is : aru ≡ last_aru h.turns
  pub safe_is : safe ≡ mark_of h
