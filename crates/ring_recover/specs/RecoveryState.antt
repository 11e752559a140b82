-- The state of a node in Recovery, as contracts see it, and what the code keeps of it.
-- Rules: Recovery 4 to 6
use Rattle.std.specs.Prelude.{◌≡◌, ℕ, ◌+◌, ◌<◌, ◌≤◌, Bool, false, ◌&&◌, nat_le, if◌then◌else◌, List, [], ◌∷◌, filter, length, Option, Some, None, slice_get}
use Rattle.std.specs.Option.{option_map}
use Rattle.ring_base.specs.Processors.{has, size, position_of}
use Rattle.ring_base.specs.declared.ring_id.RingId.{RingId}
use Rattle.ring_window.specs.Payloads.{is_user}
use Rattle.ring_commit.specs.Tokens.{CommitToken}
use Rattle.ring_commit.specs.Tokens.{CommitEntry}
use Rattle.ring_window.specs.Messages.{Message}
use Rattle.ring_window.specs.Bits.{is_set}
use Rattle.ring_recover.specs.Plans.{Plan, safe, least_mark, low, is_known}
use Rattle.ring_recover.specs.Wrapping.{is_wrapped, left_to_wrap, has_own_end}
use Rattle.ring_base.specs.Numbers.{window_size}

-- The node, its plan, and all messages of the new ring that it held, newest first.
pub record RecoveryState (A : Type 0) : Type 0 where
  pub me : ℕ
  pub plan : Plan
  pub seen : List (Message A)

-- The state before any message of the new ring.
abbrev pub recovery_opening : {A : Type 0} → ℕ → Plan → RecoveryState A
recovery_opening me p = record { me = me; plan = p; seen = [] }

-- The state with one more message held.
abbrev pub with_seen : {A : Type 0} → RecoveryState A → Message A → RecoveryState A
with_seen r x = record r { seen = x ∷ r.seen }

-- The number of the first message, if there is one.
abbrev pub first_number : {A : Type 0} → List (Message A) → Option ℕ
first_number [] = None
first_number (x ∷ xs) = Some x.number

-- The number to wrap next: that of the first user message not yet seen wrapped.
abbrev pub next_to_wrap : {A : Type 0} → RecoveryState A → List (Message A) → Option ℕ
next_to_wrap r held = first_number (filter (λ (x : Message _). is_user x.payload) (left_to_wrap r.plan r.seen held))

-- The old ring of a member, if each member has an entry.
abbrev pub old_ring_of : ℕ → CommitToken → Option RingId
old_ring_of me k =
    if has k.members me && nat_le (size k.members) (length k.entries)
    then option_map (λ (e : CommitEntry). e.old) (slice_get k.entries (position_of k.members me))
    else None

-- What the code keeps: the old ring, the transitional members, three numbers of the plan, and two bits for each of the
-- 256 numbers after the greatest safe mark: whether a transitional member reported it, and whether it was seen wrapped.
-- Also, whether an End of the node itself was seen.
pub record IsPlanKept {A : Type 0} (r : RecoveryState A) (old : RingId) (transitional_members least high front : ℕ) (known wrapped : List ℕ) (ended : Bool) : Type 0 where
  pub old_is : old ≡ r.plan.old
  pub transitional_members_is : transitional_members ≡ r.plan.transitional_members
  pub least_is : least ≡ least_mark r.plan
  pub safe_is : high ≡ safe r.plan
  pub low_is : front ≡ low r.plan
  pub sound : high ≤ front
  pub known_is : (j : ℕ) → j < window_size → is_set known j ≡ is_known r.plan (high + 1 + j)
  pub wrapped_is : (j : ℕ) → j < window_size → is_set wrapped j ≡ is_wrapped r.seen r.plan.old (high + 1 + j)
  pub ended_is : ended ≡ has_own_end r.me r.seen

-- What the code reads from the old ring's window

-- There is a message, and it is a user message.
abbrev pub is_user_message : {A : Type 0} → Option (Message A) → Bool
is_user_message None = false
is_user_message (Some x) = is_user x.payload

-- There is a message, and one of `senders` sent it.
abbrev pub is_sent_by_any : {A : Type 0} → ℕ → Option (Message A) → Bool
is_sent_by_any senders None = false
is_sent_by_any senders (Some x) = has senders x.sender
