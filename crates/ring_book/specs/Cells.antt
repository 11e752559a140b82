-- The invariant of a cell, and the effect of its steps.
-- Rules: The book and the threads 13, 14 and 18; Refusals 4
use Rattle.std.specs.Prelude.{ℕ, ◌≡◌, ◌-◌, ◌<◌, ◌≤◌, Bool, true, false, List, [], ◌∷◌, ◌++◌, Option, Some, MatchOption, slice_get}
use Rattle.rtrb.specs.declared.producer.Producer.{Producer}
use Rattle.rtrb.specs.declared.AnyItems.{AnyItems}
use Rattle.rtrb.specs.Ring.{sent, known_free, producer_capacity}
use Rattle.ring_base.specs.declared.fault.Fault.{Fault}
use Rattle.ring_base.specs.declared.fault.Fault.TheVariants.{Stopped, Stranger, Memory}
use Rattle.ring_node_spec.specs.declared.input.Input.{Input}
use Rattle.ring_node_spec.specs.declared.input.Input.TheVariants.{Stop}
use Rattle.ring_book_lines.specs.declared.frame_ref.FrameRef.{FrameRef}
use Rattle.ring_book_lines.specs.declared.input.LineInput.{LineInput}
use Rattle.ring_book_lines.specs.declared.input.LineInput.TheVariants.{Received}
use Rattle.ring_book.specs.JournalEnds.{Name, ring_of_producer}
use Rattle.ring_book_lines.specs.Machines.{Machine}
use Rattle.ring_book_lines.specs.Runs.{LeadsToState, IsStep}
use Rattle.ring_book.specs.BookViews.{CellView}
use Rattle.ring_book_lines.specs.Steps.{StepView}
use Rattle.ring_base.specs.Numbers.{max_frame_bytes}

-- all are steps of this node
abbrev pub AllOf : {A : Type 0} → ℕ → List (StepView A) → Type 0
AllOf node [] = Unit {0}
AllOf node (l ∷ ls) = (l.node ≡ node) × AllOf node ls

-- the first that applies: the cell is a step ahead, the node refuses, an allocation fails
abbrev pub IsRefusal : Bool → Option Fault → Fault → Type 0
IsRefusal true refusal fault = fault ≡ Stranger
IsRefusal false refusal fault = MatchOption refusal (fault ≡ Memory) (λ first. fault ≡ first)

module _ {S A : Type 0} (m : Machine S A) where
  -- the node is sound, so that its frames are within their limits; its journal leads to it from the opening state; and the
  -- journal's ring is that of this node in this book
  pub record IsCell (IsSound : S → Type 0) (name : Name A) (me : ℕ) (ahead : Bool) (node : S)
      (journal : Producer (StepView A) A AnyItems) (space : ℕ) : Type 0 where
    pub counted : 1 ≤ me
    pub in_book : me ≤ name.group.count
    pub ring : slice_get name.rings (me - 1) ≡ Some (ring_of_producer journal)
    pub leads : LeadsToState m (m.opening me) (sent journal) node
    pub mine : AllOf me (sent journal)
    pub free : ahead ≡ false → 0 < known_free journal
    pub room : producer_capacity journal ≡ 1
    pub sound : IsSound node
    pub text : max_frame_bytes ≤ space

  -- one step by this input was added to the journal, and it leads to the new node
  pub record HasJournaled (old new : CellView S A) (input : LineInput A) : Type 0 where
    pub step : StepView A
    pub step_node : step.node ≡ old.me
    pub step_input : step.input ≡ input
    pub stepped : IsStep m old.node step new.node
    pub journal : new.journal ≡ old.journal ++ step ∷ []
    pub was : old.ahead ≡ false
    pub ahead : new.ahead ≡ true
    pub me : new.me ≡ old.me

  -- the meaning of a step's refusals: the last step is not entered; the node has stopped; or memory was refused to an
  -- input other than Stop, and the journal has the step Stop instead
  abbrev pub StepRefused : CellView S A → CellView S A → Input A → FrameRef → Fault → Type 0
  StepRefused old new input at Stranger = (old.ahead ≡ true) × (new ≡ old)
  StepRefused old new input at Stopped = (old.ahead ≡ false) × (m.is_stopped old.node ≡ true) × (new ≡ old)
  StepRefused old new input at Memory = (input ≡ Stop → ⊥) × HasJournaled old new (Received Stop at)
  StepRefused old new input at _ = ⊥

  -- the meaning of a submit's refusals: the last step is not entered; then the node's own refusal; then memory was refused
  abbrev pub SubmitRefused : CellView S A → Fault → Type 0
  SubmitRefused old fault = IsRefusal old.ahead (m.refusal old.node) fault
