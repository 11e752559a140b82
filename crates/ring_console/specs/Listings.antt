-- Consecutive frames of an input, and their listing.
-- Formats: Listing frames
use Rattle.std.specs.Prelude.{◌≡◌, ◌≢◌, ℕ, ◌+◌, List, length, drop, All, IfSome, Option, Some, None, flat_map}
use Rattle.std.specs.Io.Iter.{u64_saturate}
use Rattle.std.specs.Io.KnownBytes.{Keeps, Appends, Consumes, IsAtEnd, prepend_known}
use Rattle.ring_base.specs.declared.fault.Fault.TheVariants.{Memory}
use Rattle.ring_wire.specs.Frames.{encoding_of, FrameFits}
use Rattle.ring_wire.specs.Prefixes.{HasNoEncodedPrefix}
use Rattle.ring_wire.specs.declared.frame.Frame.{Frame}
use Rattle.ring_failure.specs.declared.failure.Failure.{Failure}
use Rattle.ring_failure.specs.declared.failure.Failure.TheVariants.{Refused, BadFrame, BadScript, Output}
use Rattle.ring_console.specs.FrameLines.{listing_of}
use Rattle.ring_console.specs.declared.frame_reader.FrameReader.{FrameReader}
use Rattle.ring_console.specs.declared.frame_reader.InputState.{InputState}
use Rattle.ring_console.specs.declared.frame_reader.InputState.TheVariants.{Ended, Failed}

-- The encodings of the frames, one after another.
abbrev pub encodings_of : {A : Type 0} → List (Frame A) → List ℕ
encodings_of frames = flat_map encoding_of frames

-- No frame is a prefix of the bytes.
abbrev pub BeginsWithNoFrame : Type 0 → List ℕ → Type 0
BeginsWithNoFrame A bytes = HasNoEncodedPrefix {A = Frame A} encoding_of FrameFits bytes

-- The bytes that were read ahead and not taken yet.
abbrev pub unread_bytes : {A : Type 0} → FrameReader A → List ℕ
unread_bytes frame_reader = drop frame_reader.taken_bytes frame_reader.bytes.items

-- The rest of an input: the bytes read ahead and not taken yet, and then those still to be read.
abbrev pub left_of : {A : Type 0} → FrameReader A → Option (List ℕ) → Option (List ℕ)
left_of frame_reader rest = prepend_known (unread_bytes frame_reader) rest

-- If the reader has seen the end of the input, nothing more can be read.
abbrev pub IsEndRight : {A : Type 0} → FrameReader A → Option (List ℕ) → Type 0
IsEndRight frame_reader rest = frame_reader.state ≡ Ended → IsAtEnd rest

-- Nothing is left, or the encoding of this frame was a prefix of the rest and is taken; the next frame begins that much
-- later.
abbrev pub IsNext : {A : Type 0} → Option (List ℕ) → Option (List ℕ) → ℕ → ℕ → Option (Frame A) → Type 0
IsNext old new from to None = Keeps old new × IsAtEnd new
IsNext old new from to (Some frame) = FrameFits frame × Consumes old new (encoding_of frame) × (to ≡ u64_saturate (from + length (encoding_of frame)))

-- Why there is no next frame: an allocation failed; or none begins at this byte; or reading failed, which is reported
-- as byte 0, and none begins in the bytes that were read, which come before those still to be read.
abbrev pub IsStop : Type 0 → Option (List ℕ) → Option (List ℕ) → ℕ → InputState → Failure → Type 0
IsStop A old rest from state (Refused fault) = fault ≡ Memory
IsStop A old rest from Failed (BadFrame byte) =
    (byte ≡ 0) × (unread : List ℕ) × Keeps old (prepend_known unread rest) × BeginsWithNoFrame A unread
IsStop A old rest from state (BadFrame byte) = (byte ≡ from) × IfSome old (BeginsWithNoFrame A)
IsStop A old rest from state (BadScript line) = ⊥
IsStop A old rest from state Output = ⊥

-- The frames were a prefix of the input, the rest is left, and a line was printed for each.
pub record AreListed {A : Type 0} (input rest out out' : Option (List ℕ)) (frames : List (Frame A)) : Type 0 where
  pub fit : All FrameFits frames
  pub read : Consumes input rest (encodings_of frames)
  pub printed : Appends out out' (listing_of frames)

-- The input was a list of frames, nothing is left of it, and a line was printed for each.
abbrev pub IsListed : Type 0 → Option (List ℕ) → Option (List ℕ) → Option (List ℕ) → Option (List ℕ) → Type 0
IsListed A input input' out out' = (frames : List (Frame A)) × AreListed input input' out out' frames × IsAtEnd input'

-- Why a listing fails other than by its output, after the lines of the frames so far.
abbrev pub IsCut : Type 0 → Option (List ℕ) → Option (List ℕ) → Option (List ℕ) → Option (List ℕ) → Failure → Type 0
IsCut A input input' out out' Output = Unit {0}
IsCut A input input' out out' failure =
    (frames : List (Frame A)) × (rest : Option (List ℕ)) × (state : InputState) × AreListed input rest out out' frames
    × IsStop A rest input' (u64_saturate (length (encodings_of frames))) state failure

-- A listing failed, not by its output: exactly the lines of the frames so far were printed, and no whole frame that was
-- read is left out, unless an allocation failed.
abbrev pub IsCutListing : Type 0 → Option (List ℕ) → Option (List ℕ) → Option (List ℕ) → Option (List ℕ) → Type 0
IsCutListing A input input' out out' = (failure : Failure) × (failure ≢ Output) × IsCut A input input' out out' failure
