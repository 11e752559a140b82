-- Runs of one node, and the steps of each node in the lines.
use Rattle.std.proofs.Common.{◌≡◌, ℕ, ◌++◌, List, [], ◌∷◌, refl, ap, subst, sym, ◌∙◌, eq-eqb, true, false, Bool, ◌==◌, append-nil}
use Rattle.std.specs.Prelude.{if◌then◌else◌}
use Rattle.std.proofs.lemmas.List.Elements.{filter-append}
use Rattle.ring_book_lines.specs.declared.input.LineInput.{LineInput}
use Rattle.ring_book_lines.specs.declared.input.LineInput.TheVariants.{Submitted, Received}
use Rattle.ring_book_lines.specs.Lines.{steps, own_steps, steps_of}
use Rattle.ring_book_lines.specs.Machines.{Machine}
use Rattle.ring_book_lines.specs.Runs.{LeadsToState, IsLineOfStep, IsStep}
use Rattle.ring_book_lines.specs.Steps.{StepView, LineView}

-- one more step
pub LeadsToState-snoc : {S A : Type 0} (m : Machine S A) (s : S) (ls : List (StepView A)) (u t : S) (l : StepView A)
    → LeadsToState m s ls u → IsStep m u l t → LeadsToState m s (ls ++ l ∷ []) t
LeadsToState-snoc {S} m s [] u t l h step = (t, (subst (λ (x : S). IsStep m x l t) h step, refl))
LeadsToState-snoc m s (x ∷ ls) u t l h step = (h.0, (h.1.0, LeadsToState-snoc m h.0 ls u t l h.1.1 step))

-- the steps of the lines with one more
pub steps-snoc : {A : Type 0} (ls : List (LineView A)) (l : LineView A) → steps (ls ++ l ∷ []) ≡ steps ls ++ l.step ∷ []
steps-snoc [] l = refl
steps-snoc (x ∷ ls) l = ap (λ ys. x.step ∷ ys) (steps-snoc ls l)

-- the steps of a node, with one more of its own
pub steps_of-own : {A : Type 0} (i : ℕ) (ls : List (LineView A)) (l : LineView A) → l.step.node ≡ i → steps_of i (ls ++ l ∷ []) ≡ steps_of i ls ++ l.step ∷ []
steps_of-own {A} i ls l e =
    let b : (l.step.node == i) ≡ true = eq-eqb l.step.node i e in
    ap (own_steps i) (steps-snoc ls l)
    ∙ (filter-append (λ (x : StepView A). x.node == i) (steps ls) (l.step ∷ [])
    ∙ ap (λ ys. steps_of i ls ++ ys) (ap (λ (c : Bool). if c then (l.step ∷ []) else []) b))

-- and with one of another node
pub steps_of-other : {A : Type 0} (i : ℕ) (ls : List (LineView A)) (l : LineView A) → (l.step.node == i) ≡ false → steps_of i (ls ++ l ∷ []) ≡ steps_of i ls
steps_of-other {A} i ls l b =
    ap (own_steps i) (steps-snoc ls l)
    ∙ (filter-append (λ (x : StepView A). x.node == i) (steps ls) (l.step ∷ [])
    ∙ (ap (λ ys. steps_of i ls ++ ys) (ap (λ (c : Bool). if c then (l.step ∷ []) else []) b) ∙ append-nil (steps_of i ls)))

-- the first line of a node is its first step
pub steps_of-first : {A : Type 0} (i : ℕ) (ls : List (LineView A)) (l : LineView A) → (l.step.node == i) ≡ true → steps_of i (l ∷ ls) ≡ l.step ∷ steps_of i ls
steps_of-first i ls l b = ap (λ (c : Bool). if c then (l.step ∷ steps_of i ls) else (steps_of i ls)) b

pub steps_of-skip : {A : Type 0} (i : ℕ) (ls : List (LineView A)) (l : LineView A) → (l.step.node == i) ≡ false → steps_of i (l ∷ ls) ≡ steps_of i ls
steps_of-skip i ls l b = ap (λ (c : Bool). if c then (l.step ∷ steps_of i ls) else (steps_of i ls)) b

-- The state after a node's steps is unique

makes_one : {S A : Type 0} (m : Machine S A) (s : S) (input : LineInput A) (l : StepView A) (t u : S) → IsLineOfStep m s input l t → IsLineOfStep m s input l u → t ≡ u
makes_one m s (Submitted c) l t u h k = h.1 ∙ sym k.1
makes_one m s (Received i at) l t u h k = h.1 ∙ sym k.1

pub leads_one : {S A : Type 0} (m : Machine S A) (s : S) (ls : List (StepView A)) (t u : S) → LeadsToState m s ls t → LeadsToState m s ls u → t ≡ u
leads_one m s [] t u h k = h ∙ sym k
leads_one {S} m s (l ∷ ls) t u h k =
    let same : k.0 ≡ h.0 = makes_one m s l.input l k.0 h.0 k.1.0.makes h.1.0.makes in
    leads_one m h.0 ls t u h.1.1 (subst (λ (x : S). LeadsToState m x ls u) same k.1.1)
