-- When recovery is over: every member's End is in the front, and either the safe mark covers the last End or a user
-- message is in the front.
-- Rules: Recovery 7
use Rattle.std.specs.Prelude.{ℕ, Bool, ◌&&◌, ◌||◌, ◌==◌, nat_le, List, map, filter, filter_map}
use Rattle.std.specs.List.{list_any, list_all}
use Rattle.ring_base.specs.Numbers.{numbers_from, greatest}
use Rattle.ring_base.specs.Processors.{elements}
use Rattle.ring_base.specs.declared.ring_id.RingId.{RingId}
use Rattle.ring_window.specs.Messages.{Message}
use Rattle.ring_window.specs.Held.{found, front_of}
use Rattle.ring_window.specs.Payloads.{is_user, is_end}

-- The ring's messages in the front, ascending.
abbrev pub in_front : {A : Type 0} → List (Message A) → RingId → List (Message A)
in_front held ring = filter_map (found held ring) (numbers_from 1 (front_of held ring))

-- The Ends among them.
abbrev pub ends : {A : Type 0} → List (Message A) → List (Message A)
ends xs = filter (λ (x : Message _). is_end x.payload) xs

-- An End of processor i is among them.
abbrev pub has_end_of : {A : Type 0} → List (Message A) → ℕ → Bool
has_end_of xs i = list_any (λ (x : Message _). x.sender == i) (ends xs)

-- An End of every member is among them.
abbrev pub all_ended : {A : Type 0} → List (Message A) → ℕ → Bool
all_ended xs members = list_all (has_end_of xs) (elements members)

-- The safe mark covers the last End.
abbrev pub is_covered : {A : Type 0} → List (Message A) → ℕ → Bool
is_covered xs mark = nat_le (greatest (map (λ (x : Message _). x.number) (ends xs))) mark

-- A user message is among them.
abbrev pub has_user : {A : Type 0} → List (Message A) → Bool
has_user xs = list_any (λ (x : Message _). is_user x.payload) xs

-- The ring may be installed, by the messages in the front: every member's End is among them, and the mark covers the
-- last End or a user message is among them.
abbrev pub is_ready_by : {A : Type 0} → List (Message A) → ℕ → ℕ → Bool
is_ready_by xs members mark = all_ended xs members && (is_covered xs mark || has_user xs)

-- A node with these messages and this safe mark may install the ring of these members.
abbrev pub is_ready : {A : Type 0} → List (Message A) → RingId → ℕ → ℕ → Bool
is_ready held ring members mark = is_ready_by (in_front held ring) members mark
