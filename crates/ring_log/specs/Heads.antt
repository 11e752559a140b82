-- The order of Heads, and the chosen one: the greatest last primary, then the greatest length, then the smallest
-- sender.
-- Rules: The replicated log 4 and 5
use Rattle.std.specs.Prelude.{ℕ, min, Bool, if◌then◌else◌, List, [], ◌∷◌}
use Rattle.std.specs.declared.cmp.Ordering.{Ordering}
use Rattle.std.specs.Ordering.{nat_cmp, ordering_then, is_lt}
use Rattle.ring_base.specs.Rings.{primary_cmp}
use Rattle.ring_wire.specs.Payloads.{Head}
use Rattle.ring_log.specs.declared.received_head.ReceivedHead.{ReceivedHead}

-- The order of two Heads: by last primary, where none is least, then by length.
abbrev pub head_cmp : Head → Head → Ordering
head_cmp a b = ordering_then (primary_cmp a.last b.last) (nat_cmp a.length b.length)

-- The order of two Heads with their senders: equal Heads are ordered by sender, the smaller sender being the greater.
abbrev pub received_head_cmp : ReceivedHead → ReceivedHead → Ordering
received_head_cmp a b = ordering_then (head_cmp a.head b.head) (nat_cmp b.sender a.sender)

-- The second Head is the greater one.
abbrev pub is_behind : ReceivedHead → ReceivedHead → Bool
is_behind a b = is_lt (received_head_cmp a b)

-- The greatest of the Heads `best` and those of the list.
abbrev pub chosen_head : ReceivedHead → List ReceivedHead → ReceivedHead
chosen_head best [] = best
chosen_head best (s ∷ rest) = chosen_head (if is_behind best s then s else best) rest

-- The least of `least` and the committed lengths of the Heads.
abbrev pub least_committed : ℕ → List ReceivedHead → ℕ
least_committed least [] = least
least_committed least (s ∷ rest) = least_committed (min least s.head.committed) rest
