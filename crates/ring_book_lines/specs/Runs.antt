-- Which lists of lines are runs: each node's steps are a run of that node, and each delivered frame was sent in an earlier
-- line.
-- Rules: The book and the threads 9, 11 and 18
use Rattle.std.specs.Prelude.{ℕ, ◌≡◌, ◌≤◌, ◌++◌, false, List, [], ◌∷◌, None}
use Rattle.std.specs.List.{AllByRecursion}
use Rattle.ring_session.specs.Snapshots.{KeepsLimits}
use Rattle.ring_node_spec.specs.NodeLimits.{InputFits}
use Rattle.ring_book_lines.specs.declared.input.LineInput.{LineInput}
use Rattle.ring_book_lines.specs.declared.input.LineInput.TheVariants.{Submitted, Received}
use Rattle.ring_book_lines.specs.Lines.{steps_of, IsDeliverable}
use Rattle.ring_book_lines.specs.Machines.{Machine}
use Rattle.ring_book_lines.specs.Steps.{StepView, LineView}

-- the input is within the limits of frames, and the operation of a call consists of bytes
abbrev pub LineFits : {A : Type 0} → LineInput A → Type 0
LineFits (Submitted c) = KeepsLimits c
LineFits (Received input at) = InputFits input

-- the line's node is one of processors 1 to `count`
abbrev pub IsInside : {A : Type 0} → ℕ → LineView A → Type 0
IsInside count l = (1 ≤ l.step.node) × (l.step.node ≤ count)

-- each line delivers only a frame of an earlier line
abbrev pub AreDeliverable : {A : Type 0} → List (LineView A) → List (LineView A) → Type 0
AreDeliverable before [] = Unit {0}
AreDeliverable before (l ∷ ls) = IsDeliverable before l.step.node l.step.input × AreDeliverable (before ++ l ∷ []) ls

module _ {S A : Type 0} (m : Machine S A) where
  -- from this state, the machine makes exactly this step of the input
  abbrev pub IsLineOfStep : S → LineInput A → StepView A → S → Type 0
  IsLineOfStep s (Submitted c) l t = (m.refusal s ≡ None) × (t ≡ m.submitted s c) × (l.frames ≡ []) × (l.answers ≡ []) × (l.calls ≡ [])
  IsLineOfStep s (Received input at) l t =
      (m.is_stopped s ≡ false) × (t ≡ (m.step s input).new) × (l.frames ≡ (m.step s input).frames) × (l.answers ≡ (m.step s input).answers)
      × (l.calls ≡ (m.step s input).calls)

  -- the step leads a node from state s to state t
  pub record IsStep (s : S) (l : StepView A) (t : S) : Type 0 where
    pub fits : LineFits l.input
    pub makes : IsLineOfStep s l.input l t
    pub committed : l.committed ≡ m.committed t

  -- the steps lead a node from state s to state t
  abbrev pub LeadsToState : S → List (StepView A) → S → Type 0
  LeadsToState s [] t = t ≡ s
  LeadsToState s (l ∷ ls) t = (u : S) × (IsStep s l u × LeadsToState u ls t)

  -- each node's steps are a run of that node, and each delivered frame is in an earlier line
  pub record IsBookRun (count : ℕ) (lines : List (LineView A)) : Type 0 where
    pub nodes : (i : ℕ) → 1 ≤ i → i ≤ count → (t : S) × LeadsToState (m.opening i) (steps_of i lines) t
    pub inside : AllByRecursion (IsInside count) lines
    pub found : AreDeliverable [] lines
