-- The outcome of a node's step, as far as its timers depend on it.
-- Rules: A node with a clock 5; Nodes that records drive 3
use Rattle.std.specs.Prelude.{Bool, true, false, ◌&&◌, not, List, [], ◌∷◌, Option, Some, None}
use Rattle.std.specs.List.{list_any}
use Rattle.ring_base.specs.Rings.{same_ring}
use Rattle.ring_base.specs.declared.timeout_kind.Kind.{Kind}
use Rattle.ring_wire.specs.declared.frame.Frame.{Frame as OneFrame}
use Rattle.ring_wire.specs.declared.frame.Frame.TheVariants.{Message, Token, Join, Commit}
use Rattle.ring_core_spec.specs.State.{Core, OutgoingFrame}
use Rattle.ring_node_spec.specs.declared.input.Input.{Input}
use Rattle.ring_node_spec.specs.declared.input.Input.TheVariants.{Frame, Noise, Timeout, Stop}
use Rattle.ring_timers.specs.declared.step_outcome.StepOutcome.{StepOutcome}

-- the timeout that the input is
abbrev pub timeout_in : {A : Type 0} → Input A → Option Kind
timeout_in (Frame frame) = None
timeout_in Noise = None
timeout_in (Timeout kind) = Some kind
timeout_in Stop = None

-- whether the input is a token or a commit token
abbrev pub is_token_or_commit_token : {A : Type 0} → Input A → Bool
is_token_or_commit_token (Frame (Token t)) = true
is_token_or_commit_token (Frame (Commit c)) = true
is_token_or_commit_token (Frame (Message x)) = false
is_token_or_commit_token (Frame (Join j)) = false
is_token_or_commit_token Noise = false
is_token_or_commit_token (Timeout kind) = false
is_token_or_commit_token Stop = false

-- whether anything was sent: something is at a token that is taken
abbrev pub has_sent_frame : {A : Type 0} → List (OutgoingFrame A) → Bool
has_sent_frame [] = false
has_sent_frame (s ∷ sends) = true

-- whether the frame is a join
abbrev pub is_join_frame : {A : Type 0} → OneFrame A → Bool
is_join_frame (Message x) = false
is_join_frame (Token t) = false
is_join_frame (Join j) = true
is_join_frame (Commit c) = false

-- whether a frame that was sent is a join
abbrev pub is_join : {A : Type 0} → OutgoingFrame A → Bool
is_join s = is_join_frame s.frame

-- the outcome, from the timeout that the input was, whether it was a token, and the frames sent
abbrev pub outcome_from : {A : Type 0} → Option Kind → Bool → List (OutgoingFrame A) → StepOutcome
outcome_from timeout token sends = record { timeout = timeout; took_token = token && has_sent_frame sends; sent_join = list_any is_join sends }

-- the outcome of a step on this input that sent these frames
abbrev pub outcome_of : {A : Type 0} → Input A → List (OutgoingFrame A) → StepOutcome
outcome_of i sends = outcome_from (timeout_in i) (is_token_or_commit_token i) sends

-- whether a step between these two states installed a ring
abbrev pub installs : {A : Type 0} → Core A → Core A → Bool
installs old new = not (same_ring old.installed.ring new.installed.ring)
