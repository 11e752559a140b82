-- What a writer adds to the journal of its node.
-- Rules: The book and the threads 13 and 14
use Rattle.std.specs.Prelude.{◌≡◌, true, [], ◌∷◌, ◌++◌, Result, Ok, Err}
use Rattle.rtrb.specs.Ring.{sent, SameProducer}
use Rattle.ring_base.specs.declared.fault.Fault.{Fault}
use Rattle.ring_base.specs.declared.fault.Fault.TheVariants.{Memory}
use Rattle.ring_node_spec.specs.declared.input.Input.TheVariants.{Stop}
use Rattle.ring_book_lines.specs.declared.frame_ref.FrameRef.{FrameRef}
use Rattle.ring_book_lines.specs.declared.input.LineInput.TheVariants.{Received}
use Rattle.ring_book_lines.specs.Steps.{StepView}
use Rattle.ring_book.specs.BookViews.{CellView}
use Rattle.ring_book.specs.declared.journal_writer.JournalWriter.{JournalWriter}

-- a cell of this node with this writer
abbrev pub cell_view : {S A : Type 0} → JournalWriter A → S → CellView S A
cell_view writer node = record { me = writer.me; ahead = writer.is_step_unentered; node = node; journal = sent writer.journal }

-- the step is in the journal, and not entered in the book yet
pub record HasAdded {A : Type 0} (old new : JournalWriter A) (step : StepView A) : Type 0 where
  pub me : new.me ≡ old.me
  pub ring : SameProducer old.journal new.journal
  pub sent : sent new.journal ≡ sent old.journal ++ step ∷ []
  pub ahead : new.is_step_unentered ≡ true

-- a stop of the node in place of the step
abbrev pub stop_in_place_of : {A : Type 0} → StepView A → FrameRef → StepView A
stop_in_place_of step at = record { node = step.node; input = Received Stop at; frames = []; answers = []; calls = []; committed = step.committed }

-- After a step of the node with this result: the step is added; or its stop, if memory was refused; or nothing.
abbrev pub IsAfterStep : {X A : Type 0} → Result X Fault → (old new : JournalWriter A) → StepView A → FrameRef → Type 0
IsAfterStep (Ok x) old new step at = HasAdded old new step
IsAfterStep (Err fault) old new step at = (fault ≡ Memory → HasAdded old new (stop_in_place_of step at)) × ((fault ≡ Memory → ⊥) → new ≡ old)
