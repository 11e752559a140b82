-- The lines that a script prints.
-- Formats: What a script prints
use Rattle.std.specs.Prelude.{ℕ, ◌==◌, if◌then◌else◌, List, [], ◌++◌, flat_map, codes}
use Rattle.std.specs.Fmt.{decimal}
use Rattle.hex.specs.Hex.{encode_lower}
use Rattle.ring_base.specs.Rings.{ring_text}
use Rattle.ring_base.specs.declared.ring_id.RingId.{RingId}
use Rattle.ring_world.specs.Rules.{Told}
use Rattle.ring_world.specs.ToldVariants.{Answer as ToldAnswer, Refused as ToldRefused}
use Rattle.ring_payload.specs.declared.call.Call.{Call}
use Rattle.ring_failure.specs.Texts.{line_of, state_name_text}
use Rattle.ring_session.specs.declared.answer.Answer.{Answer}
use Rattle.ring_session.specs.declared.answer.Answer.TheVariants.{Done, Kept, Refused}
use Rattle.ring_base.specs.declared.state.State.{State}

-- Whether the call took effect, with its reply, or with the number of the fault because of which it did not.
abbrev pub outcome_text : Answer → List ℕ
outcome_text (Done reply) = codes " done " ++ encode_lower reply
outcome_text (Kept reply) = codes " kept " ++ encode_lower reply
outcome_text (Refused reason) = codes " refused " ++ decimal reason

-- A node's answer to a call.
abbrev pub answer_text : {A : Type 0} → ℕ → Call A → Answer → List ℕ
answer_text node call answer =
    codes "reply " ++ decimal node ++ codes " " ++ decimal call.client ++ codes "." ++ decimal call.number ++ outcome_text answer

-- A call that a node refused, with the number of the fault.
abbrev pub refused_text : {A : Type 0} → ℕ → Call A → ℕ → List ℕ
refused_text node call reason =
    codes "refused " ++ decimal node ++ codes " " ++ decimal call.client ++ codes "." ++ decimal call.number ++ codes " " ++ decimal reason

-- One report of a node.
abbrev pub one_text : {A : Type 0} → Told A → List ℕ
one_text (ToldAnswer node call answer) = answer_text node call answer
one_text (ToldRefused node call reason) = refused_text node call reason

-- The reports of nodes, one line each.
abbrev pub told_text : {A : Type 0} → List (Told A) → List ℕ
told_text told = flat_map (λ (t : Told _). line_of (one_text t)) told

-- The length of the one order.
abbrev pub order_text : ℕ → List ℕ
order_text length = codes "order " ++ decimal length

-- The number of dropped places, unless it is 0.
abbrev pub trimmed_text : ℕ → List ℕ
trimmed_text n = if n == 0 then [] else codes " trimmed " ++ decimal n

-- A node's state, its last installed ring, its committed length, its log's length, and the number of dropped places.
abbrev pub node_text : ℕ → State → RingId → ℕ → ℕ → ℕ → List ℕ
node_text number state ring committed log trimmed =
    codes "node " ++ decimal number ++ codes " " ++ state_name_text state ++ codes " " ++ ring_text ring
    ++ codes " committed " ++ decimal committed ++ codes " log " ++ decimal log ++ trimmed_text trimmed
