-- Frames whose bytes follow each other in a text.
-- Rules: The book and the threads 21
use Rattle.std.specs.Prelude.{ℕ, ◌≤◌, ⊤, slice_range, List, [], ◌∷◌}
use Rattle.ring_seat.specs.declared.outbox_frames.OutboxFrame.{OutboxFrame}

-- a frame: its place in its line, its receivers, and its bytes
pub record FrameCopy : Type 0 where
  pub place : ℕ
  pub to : ℕ
  pub bytes : List ℕ

-- the index at which the bytes of the last frame end, if those of the first begin at `start`
abbrev pub end_from : ℕ → List OutboxFrame → ℕ
end_from start [] = start
end_from start (outbox_frame ∷ others) = end_from outbox_frame.end others

-- the same, if the first begin at 0
abbrev pub end_of : List OutboxFrame → ℕ
end_of = end_from 0

-- the bytes of each frame end no earlier than those of the frames before it
abbrev pub AreInOrder : ℕ → List OutboxFrame → Type 0
AreInOrder start [] = ⊤
AreInOrder start (outbox_frame ∷ others) = (start ≤ outbox_frame.end) × AreInOrder outbox_frame.end others

-- the frames with their bytes in this text, if those of the first begin at `start`
abbrev pub frames_from : ℕ → List ℕ → List OutboxFrame → List FrameCopy
frames_from start text [] = []
frames_from start text (outbox_frame ∷ others) =
    record { place = outbox_frame.place; to = outbox_frame.to; bytes = slice_range text start outbox_frame.end } ∷ frames_from outbox_frame.end text others
