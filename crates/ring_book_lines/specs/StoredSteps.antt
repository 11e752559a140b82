-- The fields of steps and lines, and what they represent.
-- Rules: The book and the threads 9
use Rattle.std.specs.Prelude.{◌≡◌, ℕ, List, []}
use Rattle.ring_core_spec.specs.State.{OutgoingFrame}
use Rattle.ring_payload.specs.declared.call.Call.{Call}
use Rattle.ring_session.specs.declared.ticket_answer.TicketAnswer.{TicketAnswer}
use Rattle.ring_wire.specs.declared.frame.Frame.{Frame}
use Rattle.ring_wire.specs.declared.frame.Frame.TheVariants as frames
use Rattle.ring_node_spec.specs.declared.input.Input.TheVariants.{Frame as Comes, Noise}
use Rattle.ring_book_lines.specs.declared.cause.Cause.{Cause}
use Rattle.ring_book_lines.specs.declared.line_frames.StoredFrames.{StoredFrames}
use Rattle.ring_book_lines.specs.declared.line_frames.StoredFrames.TheVariants.{Encoded, Unencoded}
use Rattle.ring_book_lines.specs.declared.input.LineInput.{LineInput}
use Rattle.ring_book_lines.specs.declared.input.LineInput.TheVariants.{Received}
use Rattle.ring_book_lines.specs.declared.input.StepInput.{StepInput}
use Rattle.ring_book_lines.specs.declared.input.StepInput.TheVariants.{Full, FrameBytes}
use Rattle.ring_book_lines.specs.Lines.{cause_of}
use Rattle.ring_book_lines.specs.Steps.{StepView}

-- the frames sent, from the frames as they are stored
abbrev pub sends_of : {A : Type 0} → StoredFrames A → List (OutgoingFrame A)
sends_of (Encoded frames) = frames.items
sends_of (Unencoded frames) = frames.items

-- the input of a line, from the input as its step stores it
abbrev pub line_input : {A : Type 0} → StepInput A → LineInput A
line_input (Full input) = input
line_input (FrameBytes frame at) = Received (Comes frame) at

-- a frame of no meaning
abbrev pub placeholder_frame : {A : Type 0} → Frame A
placeholder_frame = frames.Join (record { sender = 1; number = 0; proc_set = 0; fail_set = 0 })

-- a step of no meaning
abbrev pub placeholder_step : {A : Type 0} → StepView A
placeholder_step = record { node = 1; input = Received Noise (record { line = 0; place = 0 }); frames = []; answers = []; calls = []; committed = 0 }

-- the fields of a line represent the step, except the frame delivered and the committed length
pub record IsStepKept {A : Type 0} (s : StepView A) (node : ℕ) (cause : Cause A) (frames : List (OutgoingFrame A))
    (answers : List (TicketAnswer A)) (calls : List (Call A)) : Type 0 where
  pub node_is : s.node ≡ node
  pub cause_is : cause_of s.input ≡ cause
  pub frames_are : s.frames ≡ frames
  pub answers_are : s.answers ≡ answers
  pub calls_are : s.calls ≡ calls
