-- A cell after a step of its node, from the result of the step.
use Rattle.std.proofs.Common.{◌≡◌, ◌≤◌, ◌+◌, false, length, refl, sym, subst, ap, ◌∙◌}
use Rattle.std.specs.Prelude.{Result, Ok, Err, OnOk, OnErr, IfErr, IsOk, MatchResult, if◌then◌else◌}
use Rattle.ring_base.specs.Group.{Group}
use Rattle.ring_base.specs.Numbers.{max_frame_bytes}
use Rattle.ring_base.specs.declared.fault.Fault.{Fault}
use Rattle.ring_base.specs.declared.fault.Fault.TheVariants.{Memory, Stopped as StoppedFault}
use Rattle.ring_object.specs.Operations.{Sequential}
use Rattle.ring_node_spec.specs.NodeLimits.{InputFits}
use Rattle.ring_node_spec.specs.Stepping.{node_step}
use Rattle.ring_node_spec.specs.Nodes.{Node, node_stopped, node_known_log, is_stopped}
use Rattle.ring_node_spec.specs.declared.input.Input.{Input}
use Rattle.ring_node_spec.specs.declared.input.Input.TheVariants.{Stop}
use Rattle.ring_node_spec.proofs.NodeChanges.{stopped_same}
use Rattle.ring_book_lines.specs.Limits.{NodeFits}
use Rattle.ring_book_lines.specs.Machines.{node_machine}
use Rattle.ring_book_lines.specs.Runs.{IsStep, IsLineOfStep, LineFits}
use Rattle.ring_book_lines.specs.Steps.{StepView}
use Rattle.ring_book_lines.specs.declared.frame_ref.FrameRef.{FrameRef}
use Rattle.ring_book_lines.specs.declared.input.LineInput.{LineInput}
use Rattle.ring_book_lines.specs.declared.input.LineInput.TheVariants.{Received}
use Rattle.ring_book.specs.Cells.{IsCell, HasJournaled, StepRefused}
use Rattle.ring_book.specs.JournalEnds.{Name}
use Rattle.ring_book.specs.Journals.{HasAdded, IsAfterStep, cell_view, stop_in_place_of}
use Rattle.ring_book.specs.declared.journal_writer.JournalWriter.{JournalWriter}
use Rattle.ring_book.proofs.Journaling.{cell_adds}
use Rattle.ring_book.proofs.Stops.{by_refusal}

-- the fault that refuses a step of this node
abbrev IsStepFault : {A : Type 0} → Node A → Fault → Type 0
IsStepFault s fault = fault ≡ (if is_stopped s.core.state then StoppedFault else Memory)

module _ {O A : Type 0} (object : Sequential O) (group : Group) where
  -- what is known after a step of the node with this result: from s to t, by this step if it wasn't refused
  pub record HasStepped {X : Type 0} (result : Result X Fault) (s t : Node A) (step : StepView A) : Type 0 where
    pub ok : OnOk result (IsStep (node_machine object group) s step t)
    pub err : OnErr result (t ≡ node_stopped s)
    pub refused : IfErr result (IsStepFault s)
    pub committed : step.committed ≡ (node_known_log t).committed

  -- a step that was not refused is one of the machine
  is_step : (s t : Node A) (input : Input A) (at : FrameRef) (step : StepView A) → InputFits input → step.input ≡ Received input at
      → step.committed ≡ (node_known_log t).committed → is_stopped s.core.state ≡ false → t ≡ (node_step object s input).node
      → step.frames ≡ (node_step object s input).sends → step.answers ≡ (node_step object s input).answers
      → step.calls ≡ (node_step object s input).committed → IsStep (node_machine object group) s step t
  is_step s t input at step fits by committed runs ok frames answers calls = record {
    fits = subst LineFits (sym by) fits;
    makes = subst (λ (i : LineInput A). IsLineOfStep (node_machine object group) s i step t) (sym by) (runs, ok, frames, answers, calls);
    committed = committed;
  }

  -- from the clauses of the node's step on this input
  pub stepped_on : {X : Type 0} (result : Result X Fault) (s t : Node A) (input : Input A) (at : FrameRef) (step : StepView A) → InputFits input
      → step.input ≡ Received input at → step.committed ≡ (node_known_log t).committed
      → OnOk result (is_stopped s.core.state ≡ false) → OnOk result (t ≡ (node_step object s input).node)
      → OnOk result (step.frames ≡ (node_step object s input).sends) → OnOk result (step.answers ≡ (node_step object s input).answers)
      → OnOk result (step.calls ≡ (node_step object s input).committed) → OnErr result (t ≡ node_stopped s) → IfErr result (IsStepFault s)
      → HasStepped result s t step
  stepped_on (Ok x) s t input at step fits by committed runs ok frames answers calls err refused = record {
    ok = is_step s t input at step fits by committed runs ok frames answers calls;
    err = tt;
    refused = tt;
    committed = committed;
  }
  stepped_on (Err fault) s t input at step fits by committed runs ok frames answers calls err refused =
      record { ok = tt; err = err; refused = refused; committed = committed }

  -- a node to which memory was refused made the step Stop
  stop_is_step : (s t : Node A) (step : StepView A) (at : FrameRef) → is_stopped s.core.state ≡ false → t ≡ node_stopped s
      → step.committed ≡ (node_known_log t).committed → IsStep (node_machine object group) s (stop_in_place_of step at) t
  stop_is_step s t step at runs err committed = record {
    fits = tt;
    makes = (runs, err, refl, refl, refl);
    committed = committed;
  }

  module _ (name : Name A) where
    -- the invariant of a cell of this node with this writer
    abbrev IsCellOf : JournalWriter A → Node A → Type 0
    IsCellOf w n = IsCell (node_machine object group) NodeFits name w.me w.is_step_unentered n w.journal (length w.text.items + w.text.spare)

    -- the cell keeps its invariant where this step was added
    pub cell_with : (old new : JournalWriter A) (s t : Node A) (step : StepView A) → IsCellOf old s → step.node ≡ old.me
        → IsStep (node_machine object group) s step t → NodeFits t → HasAdded old new step → max_frame_bytes ≤ length new.text.items + new.text.spare → IsCellOf new t
    cell_with old new s t step k mine stepped sound added room = rw (added.me, added.ahead) (
        cell_adds (node_machine object group) NodeFits name old.me old.is_step_unentered s t old.journal new.journal
        (length old.text.items + old.text.spare) (length new.text.items + new.text.spare) step k mine stepped sound room added.ring added.sent)

    -- the cell keeps its invariant, whatever the result of the step
    pub cell_after : {X : Type 0} (result : Result X Fault) (old new : JournalWriter A) (s t : Node A) (step : StepView A) (at : FrameRef)
        → IsCellOf old s → step.node ≡ old.me → HasStepped result s t step → IsAfterStep result old new step at
        → max_frame_bytes ≤ length new.text.items + new.text.spare
        → ((l : StepView A) → IsStep (node_machine object group) s l t → NodeFits t) → IsCellOf new t
    cell_after (Ok x) old new s t step at k mine h added room sound = cell_with old new s t step k mine h.ok (sound step h.ok) added room
    cell_after {X} (Err fault) old new s t step at k mine h after room sound =
        by_refusal (λ f. IsAfterStep {X = X} (Err f) old new step at → IsCellOf new t) (is_stopped s.core.state) fault h.refused
        (λ stopped kept. subst (λ (w : JournalWriter A). IsCellOf w t) (sym (kept.1 (λ is. absurd (cc is)))) (subst (λ (n : Node A). IsCellOf old n) (sym (h.err ∙ stopped_same s stopped)) k))
        (λ runs added.
        let stop = stop_is_step s t step at runs h.err h.committed in
        cell_with old new s t (stop_in_place_of step at) k mine stop (sound _ stop) (added.0 refl) room)
        after

  -- this step was added to the cell's journal
  pub journaled : (old new : JournalWriter A) (s t : Node A) (step : StepView A) (input : LineInput A) → step.node ≡ old.me
      → step.input ≡ input → old.is_step_unentered ≡ false → IsStep (node_machine object group) s step t → HasAdded old new step
      → HasJournaled (node_machine object group) (cell_view old s) (cell_view new t) input
  journaled old new s t step input mine by was stepped added = record {
    step = step;
    step_node = mine;
    step_input = by;
    stepped = stepped;
    journal = added.sent;
    was = was;
    ahead = added.ahead;
    me = added.me;
  }

  -- the step, or the reason of its refusal
  pub returned_after : {X : Type 0} (result : Result X Fault) (old new : JournalWriter A) (s t : Node A) (step : StepView A) (input : Input A) (at : FrameRef)
      → old.is_step_unentered ≡ false → step.node ≡ old.me → step.input ≡ Received input at → HasStepped result s t step → IsAfterStep result old new step at
      → (input ≡ Stop → is_stopped s.core.state ≡ false → IsOk result)
      → MatchResult result (λ _. HasJournaled (node_machine object group) (cell_view old s) (cell_view new t) (Received input at))
      (StepRefused (node_machine object group) (cell_view old s) (cell_view new t) input at)
  returned_after (Ok x) old new s t step input at was mine by h added stops =
      journaled old new s t step (Received input at) mine by was h.ok added
  returned_after {X} (Err fault) old new s t step input at was mine by h after stops =
      by_refusal (λ f. IsAfterStep {X = X} (Err f) old new step at → StepRefused (node_machine object group) (cell_view old s) (cell_view new t) input at f)
      (is_stopped s.core.state) fault h.refused
      (λ stopped kept. (was, stopped, ap (λ w. cell_view w t) (kept.1 (λ is. absurd (cc is))) ∙ ap (cell_view old) (h.err ∙ stopped_same s stopped)))
      (λ runs added. (
        λ is. (let ok = stops is runs in absurd (cc ok)),
        journaled old new s t (stop_in_place_of step at) (Received Stop at) mine refl was (stop_is_step s t step at runs h.err h.committed) (added.0 refl),
      ))
      after
