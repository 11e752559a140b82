-- The lines of the book, and the frames in them.
-- Rules: The book and the threads 9 to 11 and 16
use Rattle.std.specs.Prelude.{ℕ, ◌≡◌, ◌==◌, List, map, filter, Option, Some, None, slice_get, IsSomeAnd, if◌then◌else◌}
use Rattle.std.specs.Option.{option_and_then}
use Rattle.ring_base.specs.Processors.{has}
use Rattle.ring_core_spec.specs.State.{OutgoingFrame}
use Rattle.ring_wire.specs.declared.frame.Frame.{Frame}
use Rattle.ring_wire.specs.Frames.{encoding_of}
use Rattle.ring_node_spec.specs.declared.input.Input.{Input}
use Rattle.ring_node_spec.specs.declared.input.Input.TheVariants.{Frame as Comes, Noise, Timeout, Stop}
use Rattle.ring_book_lines.specs.declared.cause.Cause.{Cause}
use Rattle.ring_book_lines.specs.declared.cause.Cause.TheVariants as causes
use Rattle.ring_book_lines.specs.declared.frame_ref.FrameRef.{FrameRef}
use Rattle.ring_book_lines.specs.declared.input.LineInput.{LineInput}
use Rattle.ring_book_lines.specs.declared.input.LineInput.TheVariants.{Submitted, Received}
use Rattle.ring_book_lines.specs.Steps.{StepView, LineView}

-- the steps of the lines, in order
abbrev pub steps : {A : Type 0} → List (LineView A) → List (StepView A)
steps {A} lines = map (λ (l : LineView A). l.step) lines

-- the steps of one node
abbrev pub own_steps : {A : Type 0} → ℕ → List (StepView A) → List (StepView A)
own_steps {A} node all = filter (λ (s : StepView A). s.node == node) all

-- the steps of a node in the book
abbrev pub steps_of : {A : Type 0} → ℕ → List (LineView A) → List (StepView A)
steps_of node lines = own_steps node (steps lines)

-- the frame at this place, with its receivers
abbrev pub sent_at : {A : Type 0} → List (LineView A) → FrameRef → Option (OutgoingFrame A)
sent_at {A} lines at = option_and_then (λ (l : LineView A). slice_get l.step.frames at.place) (slice_get lines at.line)

-- the frame, if the node is a receiver
abbrev pub frame_for : {A : Type 0} → ℕ → OutgoingFrame A → Option (Frame A)
frame_for node s = if has s.to node then Some s.frame else None

-- the frame at this place, if the node is a receiver
abbrev pub frame_to : {A : Type 0} → List (LineView A) → FrameRef → ℕ → Option (Frame A)
frame_to lines at node = option_and_then (frame_for node) (sent_at lines at)

-- the frame at this place has these bytes, and the node is a receiver
abbrev pub HasBytesAt : {A : Type 0} → List (LineView A) → FrameRef → ℕ → List ℕ → Type 0
HasBytesAt {A} lines at node bytes = IsSomeAnd (frame_to lines at node) (λ (f : Frame A). encoding_of f ≡ bytes)

-- if the input is a frame, it is the one at this place, and the node is a receiver
abbrev pub IsFrameAt : {A : Type 0} → List (LineView A) → ℕ → FrameRef → Input A → Type 0
IsFrameAt lines node at (Comes f) = frame_to lines at node ≡ Some f
IsFrameAt lines node at Noise = Unit {0}
IsFrameAt lines node at (Timeout kind) = Unit {0}
IsFrameAt lines node at Stop = Unit {0}

-- the frame that the line delivers, if it delivers one, is in these lines
abbrev pub IsDeliverable : {A : Type 0} → List (LineView A) → ℕ → LineInput A → Type 0
IsDeliverable lines node (Submitted c) = Unit {0}
IsDeliverable lines node (Received input at) = IsFrameAt lines node at input

-- a line's record of its input: of a frame, its place in the book
abbrev pub cause_of : {A : Type 0} → LineInput A → Cause A
cause_of (Submitted c) = causes.Submitted c
cause_of (Received (Comes f) at) = causes.Delivered at
cause_of (Received Noise at) = causes.Noise
cause_of (Received (Timeout kind) at) = causes.Timeout kind
cause_of (Received Stop at) = causes.Stopped
