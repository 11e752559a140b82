-- The history of a node as its log depends on it: its epochs, the rings that it installed, newest first, with the
-- messages received there.
-- Rules: The replicated log 1; Outputs 9
use Rattle.std.specs.Prelude.{ℕ, suc, List, [], ◌∷◌, ◌++◌}
use Rattle.ring_base.specs.Processors.{only}
use Rattle.ring_base.specs.declared.ring_id.RingId.{RingId}
use Rattle.ring_wire.specs.Payloads.{Call as OneCall, Payload}
use Rattle.ring_wire.specs.declared.message.Message.{Message}

-- An epoch: a node's time in a ring that it installed. It has the messages agreed there, in order; the safe mark; the
-- payloads that the node handed to its core since; and the trimmed length at the end of the last step there that
-- dropped places, 0 if none did. `front` is not known to the node: it is the places that the snapshot sent in this ring
-- replaces. It is empty in a node's own epochs, and filled in when the epochs of all nodes are considered together.
pub record Epoch (A : Type 0) : Type 0 where
  pub ring : RingId
  pub members : ℕ
  pub heard : List (Message A)
  pub mark : ℕ
  pub sent : List (Payload A)
  pub trimmed : ℕ
  pub front : List (OneCall A)

-- An epoch that has just begun.
abbrev pub epoch_opening : {A : Type 0} → RingId → ℕ → Epoch A
epoch_opening ring members = record { ring = ring; members = members; heard = []; mark = 0; sent = []; trimmed = 0; front = [] }

-- The epochs at the opening: the ring of only the node itself.
abbrev pub history_opening_of : {A : Type 0} → ℕ → List (Epoch A)
history_opening_of me = epoch_opening (record { seq = 0; rep = me }) (only me) ∷ []

-- A number above those of all rings in these epochs.
abbrev pub number_above_rings : {A : Type 0} → List (Epoch A) → ℕ
number_above_rings [] = 0
number_above_rings (s ∷ older) = suc s.ring.seq

-- Additions to the newest epoch: a message received, a safe mark, payloads handed over, places dropped

-- The epochs with one more message received.
abbrev pub epochs_with_message : {A : Type 0} → Message A → List (Epoch A) → List (Epoch A)
epochs_with_message x [] = []
epochs_with_message x (s ∷ older) = record s { heard = s.heard ++ x ∷ [] } ∷ older

-- The epochs with a new safe mark.
abbrev pub epochs_with_mark : {A : Type 0} → ℕ → List (Epoch A) → List (Epoch A)
epochs_with_mark mark [] = []
epochs_with_mark mark (s ∷ older) = record s { mark = mark } ∷ older

-- The epochs with more payloads handed over.
abbrev pub epochs_with_sends : {A : Type 0} → List (Payload A) → List (Epoch A) → List (Epoch A)
epochs_with_sends payloads [] = []
epochs_with_sends payloads (s ∷ older) = record s { sent = s.sent ++ payloads } ∷ older

-- The epochs with a new trimmed length.
abbrev pub epochs_with_trim : {A : Type 0} → ℕ → List (Epoch A) → List (Epoch A)
epochs_with_trim places [] = []
epochs_with_trim places (s ∷ older) = record s { trimmed = places } ∷ older
