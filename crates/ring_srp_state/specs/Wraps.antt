-- The new messages of a visit in Recovery, number by number of the old ring.
-- Rules: Recovery 4 and 5
use Rattle.std.specs.Prelude.{ℕ, Bool, true, false, if◌then◌else◌, List, [], ◌∷◌, ◌++◌, filter_map, Option, Some, None}
use Rattle.ring_payload.specs.declared.content.Payload.{Payload}
use Rattle.ring_payload.specs.declared.content.Payload.TheVariants.{End}
use Rattle.ring_wire.specs.declared.message.Message.{Message}
use Rattle.ring_window.specs.Held.{found}
use Rattle.ring_recover.specs.RecoveryState.{RecoveryState}
use Rattle.ring_recover.specs.Wrapping.{is_wrapped, wrap, left_to_wrap, has_own_end}

-- The Wrapped of a message, if there is one and it is a user message.
abbrev pub wrap_found : {A : Type 0} → Option (Message A) → Option (Payload A)
wrap_found None = None
wrap_found (Some x) = wrap x

-- The same, unless its number was seen wrapped.
abbrev pub wrap_unless : {A : Type 0} → Bool → Option (Message A) → Option (Payload A)
wrap_unless true found = None
wrap_unless false found = wrap_found found

-- The Wrapped of the old ring's message of number n, unless it was seen wrapped.
abbrev pub wrap_left : {A : Type 0} → RecoveryState A → List (Message A) → ℕ → Option (Payload A)
wrap_left r held n = wrap_unless (is_wrapped r.seen r.plan.old n) (found held r.plan.old n)

-- The Wrapped of all messages left to wrap, then the End, unless the node's own End was seen.
abbrev pub left_and_end : {A : Type 0} → RecoveryState A → List (Message A) → List (Payload A)
left_and_end r held = filter_map wrap (left_to_wrap r.plan r.seen held) ++ (if has_own_end r.me r.seen then [] else End ∷ [])
