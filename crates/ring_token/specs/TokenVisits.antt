-- The visits that a node made, the tokens that it accepts, and the safe mark.
-- Rules: Token and window 3, 6 and 10; The commit token 7; Recovery 3
use Rattle.std.specs.Prelude.{ℕ, min, max, Bool, ◌&&◌, nat_lt, nat_le, List, [], ◌∷◌, map, filter, None}
use Rattle.std.specs.List.{list_all}
use Rattle.ring_base.specs.Rings.{same_ring}
use Rattle.ring_base.specs.Numbers.{max_number, greatest}
use Rattle.ring_base.specs.declared.ring_id.RingId.{RingId}
use Rattle.ring_wire.specs.Messages.{Payload}
use Rattle.ring_wire.specs.declared.token.Token.{Token}

-- A visit as a fact: the received token, the front with the new messages held, these messages, and the forwarded token.
pub record TokenVisit (A : Type 0) : Type 0 where
  pub received : Token
  pub front : ℕ
  pub fresh : List (Payload A)
  pub forwarded : Token

-- Recovery 3: the safe mark of a ring was raised to at least this, by the reports in a commit token.
pub record MarkRaise : Type 0 where
  pub ring : RingId
  pub mark : ℕ

-- The commit token 7: the first token of a ring, which the representative visits when the commit token returns for the
-- second time.
abbrev pub first_token : RingId → Token
first_token ring = record { ring = ring; number = 0; seq = 0; aru = 0; aru_id = None; requests = [] }

-- The visits of one ring, newest first.
abbrev pub visits_in_ring : {A : Type 0} → RingId → List (TokenVisit A) → List (TokenVisit A)
visits_in_ring ring turns = filter (λ v. same_ring v.received.ring ring) turns

-- Accepting

-- The token's number is above that of each visited token of its ring.
abbrev pub is_newer : {A : Type 0} → List (TokenVisit A) → Token → Bool
is_newer turns t = list_all (λ (v : TokenVisit _). nat_lt v.received.number t.number) (visits_in_ring t.ring turns)

-- Token and window 6: a token is accepted if it belongs to the running ring, its number is newer and below `MAX`, and
-- its `seq` is at least the highest number held.
abbrev pub is_accepted : {A : Type 0} → RingId → List (TokenVisit A) → ℕ → Token → Bool
is_accepted running turns highest t = same_ring t.ring running && is_newer turns t && nat_lt t.number max_number && nat_le highest t.seq

-- The safe mark

-- The safe mark after visits that forwarded a, and before that the `aru` values of the list, newest first: the
-- greatest, over all pairs of neighbours, of the lesser of the two.
abbrev pub mark_from_later_arus : ℕ → List ℕ → ℕ
mark_from_later_arus a [] = 0
mark_from_later_arus a (b ∷ rest) = max (min a b) (mark_from_later_arus b rest)

-- The safe mark after all visits, from the `aru` values that they forwarded, newest first. After one visit it is 0.
abbrev pub mark_from_arus : List ℕ → ℕ
mark_from_arus [] = 0
mark_from_arus (a ∷ rest) = mark_from_later_arus a rest

-- The `aru` values forwarded in a ring, newest first.
abbrev pub forwarded_in : {A : Type 0} → RingId → List (TokenVisit A) → List ℕ
forwarded_in ring turns = map (λ (v : TokenVisit _). v.forwarded.aru) (visits_in_ring ring turns)

-- The greatest mark to which a ring was raised.
abbrev pub raised_to : RingId → List MarkRaise → ℕ
raised_to ring raises = greatest (map (λ (x : MarkRaise). x.mark) (filter (λ (x : MarkRaise). same_ring x.ring ring) raises))

-- Token and window 10: the safe mark of a ring.
abbrev pub safe_mark : {A : Type 0} → List (TokenVisit A) → List MarkRaise → RingId → ℕ
safe_mark turns raises ring = max (mark_from_arus (forwarded_in ring turns)) (raised_to ring raises)
