-- The marks that a trace puts into a picture.
-- Formats: The command line
use Rattle.std.specs.Prelude.{ℕ, ◌==◌, if◌then◌else◌, List, [], ◌∷◌, ◌++◌, map, flat_map, Option, Some, None}
use Rattle.ring_base.specs.declared.state.State.TheVariants.{Operational}
use Rattle.ring_trace_picture.specs.declared.mark.PictureMark.{PictureMark}
use Rattle.ring_trace_picture.specs.declared.mark.PictureMark.TheVariants as mark
use Rattle.ring_trace_picture.specs.declared.mark.LaneColour.TheVariants as colour
use Rattle.ring_node_spec.specs.declared.client_report.Told.{Told}
use Rattle.ring_node_spec.specs.declared.client_report.Told.TheVariants.{Answer, Refused}
use Rattle.ring_trace_words.specs.declared.node_change.Change.{Change}
use Rattle.ring_trace_words.specs.declared.node_change.Change.TheVariants as change
use Rattle.ring_trace_words.specs.declared.waiting.WaitingCall.{WaitingCall}

-- A submitted call.
abbrev pub submit_mark : WaitingCall → PictureMark
submit_mark call = mark.Submit call.node call.client call.number

-- The submitted call, if there is one.
abbrev pub submit_marks : Option WaitingCall → List PictureMark
submit_marks None = []
submit_marks (Some call) = submit_mark call ∷ []

-- A change of a node: its lane gets the colour of its state or, for a new ring, that of an operational node or of a
-- minority. A snapshot of no places has no mark.
abbrev pub change_marks : ℕ → Change → List PictureMark
change_marks node (change.State state) = mark.LaneColour node (colour.State state) ∷ []
change_marks node (change.Ring ring members share) =
    mark.LaneColour node (if share.is_primary then colour.State Operational else colour.Minority) ∷ mark.Ring node ring members ∷ []
change_marks node (change.Committed length) = mark.Committed node length ∷ []
change_marks node (change.Trimmed length) = if length == 0 then [] else mark.Trimmed node ∷ []
change_marks node (change.Restored length) = mark.Trimmed node ∷ []

-- A call that a node answered or refused, so it no longer waits.
abbrev pub outcome_mark : {A : Type 0} → Told A → PictureMark
outcome_mark (Answer node call answer) = mark.Answer node call.client call.number
outcome_mark (Refused node call fault) = mark.Answer node call.client call.number

-- An event: its number, the submitted call, the changes of the node, and its reports.
abbrev pub event_marks : {A : Type 0} → ℕ → ℕ → Option WaitingCall → List Change → List (Told A) → List PictureMark
event_marks event node submitted changes told =
    mark.Event event ∷ (submit_marks submitted ++ flat_map (change_marks node) changes ++ map outcome_mark told)
