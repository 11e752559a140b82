-- How the old ring's messages are sent in the new one: each as a Wrapped, in ascending order, and then one End.
-- Rules: Recovery 4 to 6
use Rattle.std.specs.Prelude.{ℕ, ◌+◌, ◌-◌, Bool, false, not, ◌&&◌, ◌==◌, if◌then◌else◌, List, [], ◌∷◌, ◌++◌, filter, filter_map, Option, Some, None}
use Rattle.std.specs.List.{list_any}
use Rattle.ring_base.specs.Rings.{same_ring}
use Rattle.ring_base.specs.Numbers.{numbers_from}
use Rattle.ring_base.specs.declared.ring_id.RingId.{RingId}
use Rattle.ring_window.specs.Payloads.{WrappedPayload, Payload, Wrapped as WrappedMessage, is_end, payload_of, content_of}
use Rattle.ring_window.specs.PayloadVariants.{Call, Wrapped, End, Head, Part, Pack, Snap}
use Rattle.ring_window.specs.Messages.{Message}
use Rattle.ring_window.specs.Held.{found, of_ring, highest, is_new}
use Rattle.ring_recover.specs.Plans.{Plan, low}

-- The payload wraps number n of the old ring.
abbrev pub is_wrap_of : {A : Type 0} → RingId → ℕ → Payload A → Bool
is_wrap_of old n (Wrapped w) = same_ring w.ring old && (w.number == n)
is_wrap_of old n (Call call) = false
is_wrap_of old n End = false
is_wrap_of old n (Head head) = false
is_wrap_of old n (Part part) = false
is_wrap_of old n (Pack pack) = false
is_wrap_of old n (Snap snap) = false

-- One of the new ring's messages wraps number n.
abbrev pub is_wrapped : {A : Type 0} → List (Message A) → RingId → ℕ → Bool
is_wrapped fresh old n = list_any (λ (x : Message _). is_wrap_of old n x.payload) fresh

-- A message of the old ring as a payload of the new one, if it has user content.
abbrev pub wrap_content : {A : Type 0} → Message A → Option (WrappedPayload A) → Option (Payload A)
wrap_content x None = None
wrap_content x (Some content) = Some (Wrapped (record { ring = x.ring; number = x.number; sender = x.sender; payload = content }))

-- The payload that wraps a message, if it is a user message.
abbrev pub wrap : {A : Type 0} → Message A → Option (Payload A)
wrap x = wrap_content x (content_of x.payload)

-- The old ring's messages above the least reported front, ascending.
abbrev pub above_low : {A : Type 0} → Plan → List (Message A) → List (Message A)
above_low p held = filter_map (found held p.old) (numbers_from (low p + 1) (highest held p.old - low p))

-- The messages of them that none of these messages of the new ring wraps.
abbrev pub left_to_wrap : {A : Type 0} → Plan → List (Message A) → List (Message A) → List (Message A)
left_to_wrap p fresh held = filter (λ (x : Message _). not (is_wrapped fresh p.old x.number)) (above_low p held)

-- The messages not yet seen wrapped on the new ring.
abbrev pub to_wrap : {A : Type 0} → Plan → RingId → List (Message A) → List (Message A)
to_wrap p running held = left_to_wrap p (of_ring running held) held

-- The node's own End is among these messages of the new ring.
abbrev pub has_own_end : {A : Type 0} → ℕ → List (Message A) → Bool
has_own_end me fresh = list_any (λ (x : Message _). is_end x.payload && (x.sender == me)) fresh

-- The node holds its own End, so it has sent it.
abbrev pub has_ended : {A : Type 0} → ℕ → RingId → List (Message A) → Bool
has_ended me running held = has_own_end me (of_ring running held)

-- The payloads that a node in Recovery still has to send: a Wrapped for each message left to wrap, then one End.
abbrev pub wraps_and_end : {A : Type 0} → ℕ → Plan → RingId → List (Message A) → List (Payload A)
wraps_and_end me p running held = filter_map wrap (to_wrap p running held) ++ (if has_ended me running held then [] else End ∷ [])

-- The inner message of a Wrapped, as a message of its own ring.
abbrev pub inner_message : {A : Type 0} → WrappedMessage A → Message A
inner_message w = record { ring = w.ring; number = w.number; sender = w.sender; payload = payload_of w.payload }

-- The messages that a Wrapped adds to the old window: its inner message, if it belongs to the old ring and is new
-- there.
abbrev pub inner_if_new : {A : Type 0} → RingId → ℕ → List (Message A) → WrappedMessage A → List (Message A)
inner_if_new old mark held w =
    if same_ring w.ring old && is_new held mark old w.number then inner_message w ∷ [] else []

-- The messages that any payload of the new ring adds to the old window: none, unless it is a Wrapped.
abbrev pub inner_messages : {A : Type 0} → RingId → ℕ → List (Message A) → Payload A → List (Message A)
inner_messages old mark held (Wrapped w) = inner_if_new old mark held w
inner_messages old mark held (Call call) = []
inner_messages old mark held End = []
inner_messages old mark held (Head head) = []
inner_messages old mark held (Part part) = []
inner_messages old mark held (Pack pack) = []
inner_messages old mark held (Snap snap) = []
