-- Frames and inputs of a node, as far as counts depend on them.
-- Formats: Records
use Rattle.std.specs.Prelude.{ℕ, Bool, true, false, nat_le}
use Rattle.ring_base.specs.declared.timeout_kind.Kind.{Kind}
use Rattle.ring_base.specs.declared.timeout_kind.Kind.TheVariants.{Retransmit, Join, Consensus, Loss}
use Rattle.ring_wire.specs.declared.frame.Frame.{Frame}
use Rattle.ring_wire.specs.declared.frame.Frame.TheVariants as frame
use Rattle.ring_node_spec.specs.declared.input.Input.{Input}
use Rattle.ring_node_spec.specs.declared.input.Input.TheVariants as input
use Rattle.ring_counts.specs.declared.counted.CountedFrame.{CountedFrame}
use Rattle.ring_counts.specs.declared.counted.CountedFrame.TheVariants as counted
use Rattle.ring_counts.specs.declared.counted.CountedInput.{CountedInput}
use Rattle.ring_counts.specs.declared.counted.CountedInput.TheVariants as comes

-- A frame, as far as counts depend on it: its kind, the number of a message, and the `seq` of a token.
abbrev pub counted_frame : {A : Type 0} → Frame A → CountedFrame
counted_frame (frame.Message x) = counted.Message x.number
counted_frame (frame.Token t) = counted.Token t.seq
counted_frame (frame.Join j) = counted.Join
counted_frame (frame.Commit k) = counted.Commit

-- An input, as far as counts depend on it.
abbrev pub counted_input : {A : Type 0} → Input A → CountedInput
counted_input (input.Frame f) = comes.Frame (counted_frame f)
counted_input input.Noise = comes.Noise
counted_input (input.Timeout kind) = comes.Timeout kind
counted_input input.Stop = comes.Stop

-- Whether the frame is a message that a token with this `seq` asked for. No other frame is.
abbrev pub is_asked_for : ℕ → CountedFrame → Bool
is_asked_for seq (counted.Message number) = nat_le number seq
is_asked_for seq (counted.Token other) = false
is_asked_for seq counted.Join = false
is_asked_for seq counted.Commit = false

-- Whether the frame is a token or a commit token.
abbrev pub is_some_token : CountedFrame → Bool
is_some_token (counted.Message number) = false
is_some_token (counted.Token seq) = true
is_some_token counted.Join = false
is_some_token counted.Commit = true

-- Whether a step on this frame sends the other one again.
abbrev pub is_again_at_frame : CountedFrame → CountedFrame → Bool
is_again_at_frame (counted.Message number) sent = false
is_again_at_frame (counted.Token seq) sent = is_asked_for seq sent
is_again_at_frame counted.Join sent = false
is_again_at_frame counted.Commit sent = false

-- Whether a step on this timeout sends the frame again.
abbrev pub is_again_at_timeout : Kind → CountedFrame → Bool
is_again_at_timeout Retransmit sent = is_some_token sent
is_again_at_timeout Join sent = false
is_again_at_timeout Consensus sent = false
is_again_at_timeout Loss sent = false

-- Whether a step on this input sends this frame again: a message at a token whose `seq` is not below its number, or a
-- token or commit token at a retransmit timeout.
abbrev pub is_again : CountedInput → CountedFrame → Bool
is_again (comes.Frame f) sent = is_again_at_frame f sent
is_again comes.Noise sent = false
is_again (comes.Timeout kind) sent = is_again_at_timeout kind sent
is_again comes.Stop sent = false
