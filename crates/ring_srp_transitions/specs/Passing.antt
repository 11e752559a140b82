-- The end of a visit: the token is forwarded, and the visit becomes a fact.
-- Rules: Token and window 7, 8 and 10
use Rattle.std.specs.Prelude.{ℕ, ◌+◌, List, ◌∷◌, Some, length}
use Rattle.ring_payload.specs.declared.content.Payload.{Payload}
use Rattle.ring_wire.specs.declared.token.Token.{Token}
use Rattle.ring_window.specs.Held.{front_of, missing}
use Rattle.ring_token.specs.Visits.{requests_after, token_after}
use Rattle.ring_core_spec.specs.State.{Core}
use Rattle.ring_core_spec.specs.Views.{mark}
use Rattle.ring_core_spec.specs.Visiting.{to_next}

-- The forwarded token, once the new messages are held.
abbrev pub forwarded : {A : Type 0} → Core A → Token → List ℕ → ℕ → Token
forwarded c t remaining_requests count = token_after c.me (front_of c.held t.ring) count (requests_after remaining_requests (missing c.held t.ring (mark c t.ring) (t.seq + count))) t

-- The core after it has forwarded the token.
abbrev pub token_passed_on : {A : Type 0} → Core A → Token → List ℕ → List (Payload A) → Core A
token_passed_on c t remaining_requests fresh =
    record c {
      turns = record { received = t; front = front_of c.held t.ring; fresh = fresh; forwarded = forwarded c t remaining_requests (length fresh) } ∷ c.turns;
      last_sent = Some (to_next c (forwarded c t remaining_requests (length fresh)));
    }
