-- All frames ever sent, as one text of their encodings, with the position, sender and receivers of each.
-- Rules: The book and the threads 1 to 4
-- Formats: Frames
use Rattle.std.specs.Prelude.{◌≡◌, ℕ, zero, suc, ◌+◌, ◌*◌, ◌≤◌, List, [], ◌∷◌, ◌++◌, length, if◌then◌else◌, Option, Some, None, slice_get}
use Rattle.std.specs.List.{AllByRecursion}
use Rattle.ring_base.specs.Processors.{has}
use Rattle.ring_wire.specs.Frames.{encoding_of, FrameFits}
use Rattle.ring_core_spec.specs.State.{Transmission}
use Rattle.ring_world.specs.declared.frame_store.FramePosition.{FramePosition}
use Rattle.ring_base.specs.Numbers.{max_frame_bytes}

-- the view of contracts: the frames, and the room left, in frames and in bytes
pub record StoredFramesView (A : Type 0) : Type 0 where
  pub frames : List (Transmission A)
  pub places : ℕ
  pub bytes : ℕ

-- there is room for `many` frames of at most 8,192 bytes each
pub record HasRoom {A : Type 0} (many : ℕ) (s : StoredFramesView A) : Type 0 where
  pub places : many ≤ s.places
  pub bytes : many * max_frame_bytes ≤ s.bytes

-- What is stored

-- the encodings of the frames, one after another
abbrev pub text_of : {A : Type 0} → List (Transmission A) → List ℕ
text_of [] = []
text_of (f ∷ fs) = encoding_of f.frame ++ text_of fs

-- the position of a frame whose encoding begins at `at`
abbrev pub position_of : {A : Type 0} → ℕ → Transmission A → FramePosition
position_of at f = record { start = at; end = at + length (encoding_of f.frame); sender = f.from; to = f.to }

-- the positions of these frames, the first of which begins at `at`
abbrev pub positions_from : {A : Type 0} → ℕ → List (Transmission A) → List FramePosition
positions_from at [] = []
positions_from at (f ∷ fs) = position_of at f ∷ positions_from (at + length (encoding_of f.frame)) fs

-- the stored bytes and positions are those of these frames, which are within the limits of frames
pub record AreFrames {A : Type 0} (frames : List (Transmission A)) (bytes : List ℕ) (positions : List FramePosition) : Type 0 where
  pub text : bytes ≡ text_of frames
  pub marks_are : positions ≡ positions_from 0 frames
  pub fit : AllByRecursion (λ (f : Transmission A). FrameFits f.frame) frames

-- Look-ups

-- the position of the frame of a number; frames are numbered from 1
abbrev pub position_at : List FramePosition → ℕ → Option FramePosition
position_at positions zero = None
position_at positions (suc k) = slice_get positions k

-- the position, if its frame was sent to this processor
abbrev pub position_for : ℕ → Option FramePosition → Option FramePosition
position_for i None = None
position_for i (Some m) = if has m.to i then Some m else None
