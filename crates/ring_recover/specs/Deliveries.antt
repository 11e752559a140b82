-- The messages of the old ring that are still to be delivered at installation.
-- Rules: Recovery 8 and 9; Outputs 5
use Rattle.std.specs.Prelude.{◌≡◌, ℕ, ◌+◌, ◌-◌, min, Bool, false, ◌&&◌, nat_lt, nat_le, if◌then◌else◌, List, ◌++◌, filter, filter_map, Option, Some, None}
use Rattle.std.specs.List.{list_all}
use Rattle.ring_base.specs.Numbers.{window_size, numbers_from}
use Rattle.ring_base.specs.Processors.{has}
use Rattle.ring_base.specs.declared.ring_id.RingId.{RingId}
use Rattle.ring_window.specs.Messages.{Message}
use Rattle.ring_window.specs.Held.{found, holds, front_of}
use Rattle.ring_recover.specs.declared.delivery.Delivery.{Delivery}
use Rattle.ring_window.specs.Payloads.{is_user}
use Rattle.ring_recover.specs.Plans.{Plan, safe, least_mark, gap, known_above_safe}

-- The list holds every number that a transitional member reported: up to the greatest safe mark, and above it.
abbrev pub is_complete : {A : Type 0} → Plan → List (Message A) → Bool
is_complete p held = nat_le (safe p) (front_of held p.old) && list_all (holds held p.old) (known_above_safe p)

-- The message, if there is one, was sent by a transitional member.
abbrev pub is_from_transitional_member_if_there : {A : Type 0} → Plan → Option (Message A) → Bool
is_from_transitional_member_if_there p None = false
is_from_transitional_member_if_there p (Some x) = has p.transitional_members x.sender

-- The old ring's message of this number is held, and a transitional member sent it.
abbrev pub is_from_transitional_member : {A : Type 0} → Plan → List (Message A) → ℕ → Bool
is_from_transitional_member p held n = is_from_transitional_member_if_there p (found held p.old n)

-- The numbers safe in the old regular configuration: above the least safe mark, up to the greatest.
abbrev pub regular_part : Plan → List ℕ
regular_part p = numbers_from (least_mark p + 1) (min window_size (safe p - least_mark p))

-- The known numbers above these and below the gap.
abbrev pub transitional_part : Plan → List ℕ
transitional_part p = filter (λ n. nat_lt n (gap p)) (known_above_safe p)

-- The known numbers past the gap that a transitional member sent; the others are discarded.
abbrev pub past_gap_part : {A : Type 0} → Plan → List (Message A) → List ℕ
past_gap_part p held = filter (is_from_transitional_member p held) (filter (nat_lt (gap p)) (known_above_safe p))

-- If both lists hold a number of the ring, they hold the same message under it.
abbrev pub SameText : {A : Type 0} → RingId → List (Message A) → List (Message A) → Type 0
SameText {A} ring a b = (n : ℕ) (x y : Message A) → found a ring n ≡ Some x → found b ring n ≡ Some y → x ≡ y

-- The three parts together.
abbrev pub delivery : {A : Type 0} → Plan → List (Message A) → Delivery
delivery p held = record { regular = regular_part p; transitional = transitional_part p; past_gap = past_gap_part p held }

-- The delivery, once every known number is held.
abbrev pub finish : {A : Type 0} → Plan → List (Message A) → Option Delivery
finish p held = if is_complete p held then Some (delivery p held) else None

-- The messages that the transitional configuration delivers: the user messages of the last two parts.
abbrev pub rest_messages : {A : Type 0} → Plan → List (Message A) → List (Message A)
rest_messages p held = filter (λ (x : Message _). is_user x.payload) (filter_map (found held p.old) (transitional_part p ++ past_gap_part p held))
