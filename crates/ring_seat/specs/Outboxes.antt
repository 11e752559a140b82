-- The frames of a line in an outbox.
-- Rules: The book and the threads 21
use Rattle.std.specs.Prelude.{ℕ, ◌≡◌, ◌+◌, ◌-◌, ◌^◌, ◌≤◌, ◌⊎◌, Bool, true, min, length, drop, List, [], ◌∷◌, ◌++◌}
use Rattle.ring_base.specs.Processors.{size}
use Rattle.ring_seat.specs.OutboxFrames.{FrameCopy, end_of, AreInOrder, frames_from}
use Rattle.ring_seat.specs.declared.outbox.Outbox.{Outbox}

-- the frames in an outbox, each with its place in the line, its receivers and its bytes
abbrev pub frames_in : {A : Type 0} → Outbox A → List FrameCopy
frames_in outbox = frames_from 0 outbox.text.items outbox.frames

-- the bytes of the text after those of all frames
abbrev pub bytes_put : {A : Type 0} → Outbox A → List ℕ
bytes_put outbox = drop (end_of outbox.frames) outbox.text.items

-- the frames are in order, and all their bytes are in the text
abbrev pub IsWhole : {A : Type 0} → Outbox A → Type 0
IsWhole outbox = AreInOrder 0 outbox.frames × (end_of outbox.frames ≤ length outbox.text.items)

-- Either the frame is added after the others, with the bytes put for it, or its copies are counted as dropped, up to
-- 2^32 - 1.
abbrev pub IsNotedOrDropped : {A : Type 0} → ℕ → ℕ → Bool → Outbox A → Outbox A → Type 0
IsNotedOrDropped place to are_bytes_appended old new =
    ((are_bytes_appended ≡ true) × (new.dropped ≡ old.dropped)
    × (frames_in new ≡ frames_in old ++ record { place = place; to = to; bytes = bytes_put old } ∷ []))
    ⊎ ((frames_in new ≡ frames_in old) × (new.dropped ≡ min (old.dropped + size to) (2 ^ 32 - 1)))
