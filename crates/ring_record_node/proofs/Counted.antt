-- A node whose clock and counts noted a step.
use Rattle.std.proofs.Common.{◌≡◌, ◌∙◌, ℕ, Bool, List, ap}
use Rattle.ring_base.specs.Group.{Group}
use Rattle.ring_core_spec.specs.State.{OutgoingFrame}
use Rattle.ring_node_spec.specs.Nodes.{Node}
use Rattle.ring_node_spec.specs.declared.input.Input.{Input}
use Rattle.ring_clock.specs.Clocks.{ClockView}
use Rattle.ring_counts.specs.Counted.{counted_input}
use Rattle.ring_counts.specs.Counts.{counts_after_step}
use Rattle.ring_counts.specs.declared.counted.CountedInput.{CountedInput}
use Rattle.ring_counts.specs.declared.node_counts.NodeCounts.{NodeCounts}
use Rattle.ring_record_node.specs.NodeOutputs.{RecordNodeView}

-- The counted step is that on this input, with these frames, answers and rings.
pub counted : {A : Type 0} (i : Input A) (slice sends : List (OutgoingFrame A)) (answers answers' : ℕ) (installed installed' : Bool) (input : CountedInput)
    (old new : NodeCounts)
    → input ≡ counted_input i → slice ≡ sends → answers ≡ answers' → installed ≡ installed' → new ≡ counts_after_step input slice answers installed old
    → new ≡ counts_after_step (counted_input i) sends answers' installed' old
counted {A} i slice sends answers answers' installed installed' input old new input_is sends_are answers_are installed_is noted =
    noted ∙ ap (λ (c : CountedInput). counts_after_step c slice answers installed old) input_is
    ∙ ap (λ (s : List (OutgoingFrame A)). counts_after_step (counted_input i) s answers installed old) sends_are
    ∙ ap (λ (n : ℕ). counts_after_step (counted_input i) sends n installed old) answers_are
    ∙ ap (λ (b : Bool). counts_after_step (counted_input i) sends answers' b old) installed_is

-- The node with these notes of its clock and its counts.
abbrev pub with_notes : {A : Type 0} → Group → Node A → ClockView → NodeCounts → RecordNodeView A
with_notes group node clock counts = record { group = group; node = node; clock = clock; counts = counts }

-- Both are those after the step.
pub both : {A : Type 0} (group : Group) (node : Node A) (clock clock' : ClockView) (counts counts' : NodeCounts) → clock ≡ clock' → counts ≡ counts'
    → with_notes group node clock counts ≡ with_notes group node clock' counts'
both group node clock clock' counts counts' clock_is counts_are =
    ap (λ (k : ClockView). with_notes group node k counts) clock_is ∙ ap (λ (n : NodeCounts). with_notes group node clock' n) counts_are
