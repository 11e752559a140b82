-- The task of a turn, with the frame that was read for it.
-- Rules: The book and the threads 21 and 23
use Rattle.std.specs.Prelude.{⊤, ◌≡◌, List, ℕ, Option, Some, None}
use Rattle.ring_wire.specs.declared.frame.Frame.{Frame as OneFrame}
use Rattle.ring_wire.specs.declared.frame.Frame.TheVariants.{Message, Token, Join, Commit}
use Rattle.ring_wire.specs.Frames.{FrameFits, encoding_of}
use Rattle.ring_node_spec.specs.declared.input.Input.{Input}
use Rattle.ring_node_spec.specs.declared.input.Input.TheVariants.{Frame as Comes, Noise, Timeout as TimedOut}
use Rattle.ring_book_lines.specs.declared.frame_ref.FrameRef.{FrameRef}
use Rattle.ring_book_lines.specs.Lines.{HasBytesAt}
use Rattle.ring_book_lines.specs.Steps.{LineView}
use Rattle.ring_base.specs.declared.timeout_kind.Kind.{Kind}
use Rattle.ring_host.specs.declared.inbox_frame_and_task.TaskKind.{TaskKind}
use Rattle.ring_host.specs.declared.inbox_frame_and_task.TaskKind.TheVariants as task_kind
use Rattle.ring_host.specs.declared.inbox_frame_and_task.Task.{Task}
use Rattle.ring_host.specs.declared.inbox_frame_and_task.Task.TheVariants.{Timeout, Received}

-- A frame within the limits of its format was read, and this text is its encoding.
abbrev pub IsRead : {A : Type 0} → Option (OneFrame A) → List ℕ → Type 0
IsRead None text = ⊥
IsRead (Some frame) text = FrameFits frame × (text ≡ encoding_of frame)

-- If the task is a frame, its bytes are the encoding of the frame that was read.
abbrev pub TaskFits : {A : Type 0} → Option (OneFrame A) → Task A → Type 0
TaskFits place (Timeout kind) = ⊤
TaskFits place (Received bytes at) = IsRead place bytes.items

-- The task is a frame.
abbrev pub IsFrame : {A : Type 0} → Task A → Type 0
IsFrame (Timeout kind) = ⊥
IsFrame (Received bytes at) = ⊤

-- The task's timeout, if it is one.
abbrev pub timeout_of : {A : Type 0} → Task A → Option Kind
timeout_of (Timeout kind) = Some kind
timeout_of (Received bytes at) = None

-- The kind of the frame that was read: a token for tokens and commit tokens, otherwise other.
abbrev pub frame_task_kind : {A : Type 0} → Option (OneFrame A) → TaskKind
frame_task_kind None = task_kind.Other
frame_task_kind (Some (Message message)) = task_kind.Other
frame_task_kind (Some (Token token)) = task_kind.Token
frame_task_kind (Some (Join join)) = task_kind.Other
frame_task_kind (Some (Commit commit)) = task_kind.Token

-- The kind of a task: its timeout, or the kind of its frame.
abbrev pub task_kind_of : {A : Type 0} → Option (OneFrame A) → Task A → TaskKind
task_kind_of place (Timeout kind) = task_kind.Timeout kind
task_kind_of place (Received bytes at) = frame_task_kind place

-- If the task is a frame, the lines have its bytes at its reference, addressed to the node.
abbrev pub IsTaskInBook : {A : Type 0} → List (LineView A) → ℕ → Task A → Type 0
IsTaskInBook lines node (Timeout kind) = ⊤
IsTaskInBook lines node (Received bytes at) = HasBytesAt lines at node bytes.items

-- The node's input for a frame: the frame that was read.
abbrev pub frame_input : {A : Type 0} → Option (OneFrame A) → Input A
frame_input None = Noise
frame_input (Some frame) = Comes frame

-- The node's input for a task.
abbrev pub input_of : {A : Type 0} → Option (OneFrame A) → Task A → Input A
input_of place (Timeout kind) = TimedOut kind
input_of place (Received bytes at) = frame_input place

-- The task's reference to the book, which has a meaning only for a frame.
abbrev pub ref_of : {A : Type 0} → Task A → FrameRef
ref_of (Timeout kind) = record { line = 0; place = 0 }
ref_of (Received bytes at) = at
