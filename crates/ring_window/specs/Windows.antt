-- A window as contracts see it: all messages of one ring that were ever held, newest first, and the safe mark. The code
-- may have dropped the messages up to the mark.
-- Rules: Token and window 1, 2, 4 and 14
use Rattle.std.specs.Prelude.{ℕ, max, Bool, ◌&&◌, nat_lt, if◌then◌else◌, List, [], ◌∷◌, take, Option, None}
use Rattle.ring_base.specs.Rings.{same_ring}
use Rattle.ring_base.specs.declared.ring_id.RingId.{RingId}
use Rattle.ring_wire.specs.Payloads.{max_requests}
use Rattle.ring_wire.specs.declared.message.Message.{Message}
use Rattle.ring_window.specs.Held.{found, is_new, missing}

-- The window of a ring: its safe mark, and all messages of the ring that were ever held, newest first.
pub record WindowHistory (A : Type 0) : Type 0 where
  pub ring : RingId
  pub mark : ℕ
  pub held : List (Message A)

-- The empty window of a ring.
abbrev pub window_opening : {A : Type 0} → RingId → WindowHistory A
window_opening ring = record { ring = ring; mark = 0; held = [] }

-- Whether a message is taken: it belongs to the ring, and its number is new.
abbrev pub takes : {A : Type 0} → WindowHistory A → Message A → Bool
takes w x = same_ring x.ring w.ring && is_new w.held w.mark w.ring x.number

-- The window after it was offered a message.
abbrev pub window_after_take : {A : Type 0} → WindowHistory A → Message A → WindowHistory A
window_after_take w x = if takes w x then record w { held = x ∷ w.held } else w

-- The window after its safe mark is raised to a number.
abbrev pub window_after_forget : {A : Type 0} → WindowHistory A → ℕ → WindowHistory A
window_after_forget w upto = record w { mark = max w.mark upto }

-- The message of a number above the safe mark, if it was held.
abbrev pub message_above_mark : {A : Type 0} → WindowHistory A → ℕ → Option (Message A)
message_above_mark w n = if nat_lt w.mark n then found w.held w.ring n else None

-- The requests for missing numbers: the smallest 32 of them, or all if there are fewer.
abbrev pub first_missing : {A : Type 0} → WindowHistory A → ℕ → List ℕ
first_missing w upto = take max_requests (missing w.held w.ring w.mark upto)
