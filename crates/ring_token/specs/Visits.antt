-- One visit of the token, step by step: the requests in it, the new messages, the `aru`, and the requests of the
-- forwarded token.
-- Rules: Token and window 7 to 9
use Rattle.std.specs.Prelude.{ℕ, suc, ◌+◌, ◌-◌, min, Bool, true, not, ◌&&◌, ◌||◌, ◌==◌, nat_lt, if◌then◌else◌, List, [], ◌∷◌, filter, take, Option, Some, None}
use Rattle.ring_base.specs.Numbers.{window_size, visit_limit, max_number, merged_ascending}
use Rattle.ring_base.specs.declared.ring_id.RingId.{RingId}
use Rattle.ring_wire.specs.Payloads.{max_requests}
use Rattle.ring_wire.specs.Messages.{Payload}
use Rattle.ring_wire.specs.declared.message.Message.{Message}
use Rattle.ring_wire.specs.declared.token.Token.{Token}

-- (a) The requests in the token

-- A request stays if it is above the safe mark and not held.
abbrev pub stays_requested : ℕ → (ℕ → Bool) → ℕ → Bool
stays_requested mark holds n = nat_lt mark n && not (holds n)

-- The requests that stay.
abbrev pub requests_left : ℕ → (ℕ → Bool) → List ℕ → List ℕ
requests_left mark holds requests = filter (stays_requested mark holds) requests

-- The requests above the safe mark; those of them that are held are sent again.
abbrev pub above_mark : ℕ → List ℕ → List ℕ
above_mark mark requests = filter (nat_lt mark) requests

-- (b) The new messages, Token and window 9

-- The maximum number of new messages, bounded by the limit of a visit, the end of the window, and `MAX`.
abbrev pub max_new_messages : ℕ → ℕ → ℕ
max_new_messages mark seq = min visit_limit (min (mark + window_size - seq) (max_number - seq))

-- The payloads as messages, numbered from seq + 1 on.
abbrev pub numbered : {A : Type 0} → RingId → ℕ → ℕ → List (Payload A) → List (Message A)
numbered ring me seq [] = []
numbered ring me seq (p ∷ ps) = record { ring = ring; number = suc seq; sender = me; payload = p } ∷ numbered ring me (suc seq) ps

-- (c) The `aru`, Token and window 8

-- Whether this node or none holds the `aru` back.
abbrev pub is_held_back_by_self : ℕ → Option ℕ → Bool
is_held_back_by_self me None = true
is_held_back_by_self me (Some i) = i == me

-- Whether a node may set the `aru`: its front is below the `aru`, or no other node holds the `aru` back.
abbrev pub may_set_aru : ℕ → ℕ → Token → Bool
may_set_aru me front t = nat_lt front t.aru || is_held_back_by_self me t.aru_id

-- The forwarded `aru`.
abbrev pub aru_after : ℕ → ℕ → Token → ℕ
aru_after me front t = if may_set_aru me front t then front else t.aru

-- The forwarded `aru_id`: the node that holds the `aru` back, none if the `aru` is `seq`.
abbrev pub aru_id_after : ℕ → ℕ → ℕ → Token → Option ℕ
aru_id_after me front seq t = if may_set_aru me front t then (if front == seq then None else Some me) else t.aru_id

-- (d) The requests of the forwarded token

-- The smallest numbers among the requests that stay and the node's missing numbers.
abbrev pub requests_after : List ℕ → List ℕ → List ℕ
requests_after remaining_requests missing = take max_requests (merged_ascending remaining_requests missing)

-- (e) The forwarded token

-- The forwarded token; its number is higher by one.
abbrev pub token_after : ℕ → ℕ → ℕ → List ℕ → Token → Token
token_after me front sent requests t =
    record {
      ring = t.ring;
      number = t.number + 1;
      seq = t.seq + sent;
      aru = aru_after me front t;
      aru_id = aru_id_after me front (t.seq + sent) t;
      requests = requests;
    }

-- (f) The safe mark is computed from all visits: `safe_mark`
