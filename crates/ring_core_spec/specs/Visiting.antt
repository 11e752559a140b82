-- A core's visit of the token.
-- Rules: Token and window 6 to 10
use Rattle.std.specs.Prelude.{ℕ, ◌+◌, Bool, List, [], ◌∷◌, ◌++◌, map, filter_map, reverse, take, length, Some}
use Rattle.ring_base.specs.Processors.{only, less, next}
use Rattle.ring_token.specs.Payloads.{Payload, packed_payloads, unpacked_rest}
use Rattle.ring_token.specs.FrameVariants.{Message as MessageFrame, Token as TokenFrame}
use Rattle.ring_token.specs.Frames.{Message, Token}
use Rattle.ring_recover.specs.Windows.{found, holds, front_of, highest, missing}
use Rattle.ring_token.specs.TokenVisits.{TokenVisit, is_accepted}
use Rattle.ring_token.specs.Visits.{requests_left, above_mark, max_new_messages, numbered, requests_after, token_after}
use Rattle.ring_recover.specs.Wrapping.{wraps_and_end}
use Rattle.ring_base.specs.declared.state.State.{State}
use Rattle.ring_base.specs.declared.state.State.TheVariants.{Gather, Commit, Recovery, Operational, Stopped}
use Rattle.ring_core_spec.specs.State.{Core, OutgoingFrame, TransitionResult}
use Rattle.ring_core_spec.specs.Views.{mark, plan}

-- The core accepts the token: Token and window 6.
abbrev pub accepts : {A : Type 0} → Core A → Token → Bool
accepts c t = is_accepted c.running.ring c.turns (highest c.held t.ring) t

-- Token and window 7 (a): the requested messages that are held are sent again.
abbrev pub messages_sent_again : {A : Type 0} → Core A → Token → List (Message A)
messages_sent_again c t = filter_map (found c.held t.ring) (above_mark (mark c t.ring) t.requests)

-- Token and window 7 (b): the number of new messages that the visit has room for.
abbrev pub room_at : {A : Type 0} → Core A → Token → ℕ
room_at c t = max_new_messages (mark c t.ring) t.seq

-- The payloads that a core sends, at most count: in Operational those made of its queue, in Recovery the first of its
-- Wrapped and its End.
abbrev pub payloads_to_send : {A : Type 0} → State → Core A → ℕ → List (Payload A)
payloads_to_send Operational c count = packed_payloads count c.queue
payloads_to_send Recovery c count = take count (wraps_and_end c.me (plan c) c.running.ring c.held)
payloads_to_send Gather c count = []
payloads_to_send Commit c count = []
payloads_to_send Stopped c count = []

-- The payloads that the visit sends as new messages.
abbrev pub new_payloads : {A : Type 0} → Core A → Token → List (Payload A)
new_payloads c t = payloads_to_send c.state c (room_at c t)

-- The new messages of the token's ring, with the numbers after its `seq`.
abbrev pub new_messages : {A : Type 0} → Core A → Token → List (Message A)
new_messages c t = numbered t.ring c.me t.seq (new_payloads c t)

-- What the core holds after the visit, newest first; it holds its new messages at once.
abbrev pub held_after : {A : Type 0} → Core A → Token → List (Message A)
held_after c t = reverse (new_messages c t) ++ c.held

-- Token and window 7 (d): the token's new requests, the 32 smallest numbers of those that (a) left and those that the
-- core lacks up to the new `seq`.
abbrev pub requests_of : {A : Type 0} → Core A → Token → List (Message A) → ℕ → List ℕ
requests_of c t held seq = requests_after (requests_left (mark c t.ring) (holds c.held t.ring) t.requests) (missing held t.ring (mark c t.ring) seq)

-- Token and window 7 (c) to (e): the forwarded token, from what the core holds and the number of new messages.
abbrev pub forwarded_by : {A : Type 0} → Core A → Token → List (Message A) → ℕ → Token
forwarded_by c t held sent = token_after c.me (front_of held t.ring) sent (requests_of c t held (t.seq + sent)) t

-- The token that this visit forwards.
abbrev pub token_forwarded : {A : Type 0} → Core A → Token → Token
token_forwarded c t = forwarded_by c t (held_after c t) (length (new_payloads c t))

-- Token and window 7 (f): the visit as a fact, from which the safe mark is computed.
abbrev pub turn_of : {A : Type 0} → Core A → Token → TokenVisit A
turn_of c t = record { received = t; front = front_of (held_after c t) t.ring; fresh = new_payloads c t; forwarded = token_forwarded c t }

-- The queue after the visit, without the payloads of which the new messages were made.
abbrev pub queue_after : {A : Type 0} → State → ℕ → List (Payload A) → List (Payload A)
queue_after Operational count queue = unpacked_rest count queue
queue_after Gather count queue = queue
queue_after Commit count queue = queue
queue_after Recovery count queue = queue
queue_after Stopped count queue = queue

-- Messages, sent to all other members.
abbrev pub to_others : {A : Type 0} → Core A → List (Message A) → List (OutgoingFrame A)
to_others c xs = map (λ x. record { to = less c.running.members (only c.me); frame = MessageFrame x }) xs

-- The token, sent to the next member.
abbrev pub to_next : {A : Type 0} → Core A → Token → OutgoingFrame A
to_next c t = record { to = only (next c.running.members c.me); frame = TokenFrame t }

-- The result of the whole visit.
abbrev pub token_visited : {A : Type 0} → Core A → Token → TransitionResult A
token_visited c t =
    record {
      core = record c {
        held = held_after c t;
        turns = turn_of c t ∷ c.turns;
        queue = queue_after c.state (room_at c t) c.queue;
        last_sent = Some (to_next c (token_forwarded c t));
      };
      sends = to_others c (messages_sent_again c t ++ new_messages c t) ++ to_next c (token_forwarded c t) ∷ [];
    }
