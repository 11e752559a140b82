-- The longest committed log, line by line.
use Rattle.std.proofs.Common.{◌≡◌, ℕ, zero, suc, ◌+◌, ◌-◌, ◌≤◌, ◌<◌, Bool, true, false, List, [], ◌∷◌, ◌++◌, length, drop}
use Rattle.std.proofs.Common.{Option, Some, slice_get, refl, ap, subst, sym, ◌∙◌, arith}
use Rattle.std.proofs.Common.{append-nil, append_assoc, length-append, nat_lt, if◌then◌else◌}
use Rattle.std.specs.Prelude.{take}
use Rattle.std.specs.List.{AllByRecursion as Each}
use Rattle.std.proofs.lemmas.Bool.Decides.{nat_tests}
use Rattle.std.proofs.lemmas.List.{drop_all, length-drop}
use Rattle.ring_base.proofs.Each.{each-push}
use Rattle.ring_base.proofs.ListPlaces.{get-last}
use Rattle.ring_payload.specs.declared.call.Call.{Call}
use Rattle.ring_node_spec.specs.Worlds.{calls_past}
use Rattle.ring_book_lines.specs.declared.committed_segments.LogSegment.{LogSegment}
use Rattle.ring_book_lines.specs.Logs.{LogView, empty_log, log_extended, log_after_step, log_after_lines, log_of_lines, calls_on, calls_at, longest_log}
use Rattle.ring_book_lines.specs.Steps.{LineView}

-- ---- one more line

from-snoc : {A : Type 0} (n : ℕ) (log : LogView) (ls : List (LineView A)) (l : LineView A)
    → log_after_lines n log (ls ++ l ∷ []) ≡ log_after_step (n + length ls) (log_after_lines n log ls) l.step
from-snoc n log [] l = let k : n ≡ n + 0 = omega arith in ap (λ (j : ℕ). log_after_step j log l.step) k
from-snoc n log (x ∷ ls) l =
    let k : suc n + length ls ≡ n + suc (length ls) = omega arith in
    from-snoc (suc n) (log_after_step n log x.step) ls l ∙ ap (λ (j : ℕ). log_after_step j (log_after_lines (suc n) (log_after_step n log x.step) ls) l.step) k

pub log_of_lines-snoc : {A : Type 0} (ls : List (LineView A)) (l : LineView A) → log_of_lines (ls ++ l ∷ []) ≡ log_after_step (length ls) (log_of_lines ls) l.step
log_of_lines-snoc ls l =
    let k : 0 + length ls ≡ length ls = omega arith in
    from-snoc 0 empty_log ls l ∙ ap (λ (j : ℕ). log_after_step j (log_of_lines ls) l.step) k

-- ---- the calls of segments

calls_at-append : {A : Type 0} (lines : List (LineView A)) (xs ys : List LogSegment) → calls_at lines (xs ++ ys) ≡ calls_at lines xs ++ calls_at lines ys
calls_at-append lines [] ys = refl
calls_at-append lines (s ∷ xs) ys =
    ap (λ zs. calls_on s.from (slice_get lines s.line) ++ zs) (calls_at-append lines xs ys)
    ∙ sym (append_assoc (calls_on s.from (slice_get lines s.line)) (calls_at lines xs) (calls_at lines ys))

-- one more segment
pub calls_at-take : {A : Type 0} (lines : List (LineView A)) (ss : List LogSegment) (k : ℕ) (s : LogSegment) → slice_get ss k ≡ Some s
    → calls_at lines (take (suc k) ss) ≡ calls_at lines (take k ss) ++ calls_on s.from (slice_get lines s.line)
calls_at-take lines [] zero s h = absurd cc
calls_at-take lines [] (suc k) s h = absurd cc
calls_at-take lines (r ∷ ss) zero s h =
    let same : r ≡ s = cc in
    append-nil (calls_on r.from (slice_get lines r.line)) ∙ ap (λ (t : LogSegment). calls_on t.from (slice_get lines t.line)) same
calls_at-take lines (r ∷ ss) (suc k) s h =
    ap (λ ys. calls_on r.from (slice_get lines r.line) ++ ys) (calls_at-take lines ss k s h)
    ∙ sym (append_assoc (calls_on r.from (slice_get lines r.line)) (calls_at lines (take k ss)) (calls_on s.from (slice_get lines s.line)))

pub calls_at-all : {A : Type 0} (lines : List (LineView A)) (ss : List LogSegment) (k : ℕ) → length ss ≤ k → calls_at lines (take k ss) ≡ calls_at lines ss
calls_at-all lines [] zero h = refl
calls_at-all lines [] (suc k) h = refl
calls_at-all lines (s ∷ ss) zero h = absurd (omega arith)
calls_at-all lines (s ∷ ss) (suc k) h = ap (λ ys. calls_on s.from (slice_get lines s.line) ++ ys) (calls_at-all lines ss k (omega arith))

-- segments of these lines are the same among more lines

there_more : {X : Type 0} (xs more : List X) (k : ℕ) → k < length xs → slice_get (xs ++ more) k ≡ slice_get xs k
there_more [] more k h = absurd (omega (arith, h))
there_more (x ∷ xs) more zero h = refl
there_more (x ∷ xs) more (suc k) h = there_more xs more k (omega (arith, h))

abbrev AreBelow : ℕ → List LogSegment → Type 0
AreBelow n ss = Each (λ (s : LogSegment). s.line < n) ss

calls_at-more : {A : Type 0} (lines more : List (LineView A)) (ss : List LogSegment) → AreBelow (length lines) ss → calls_at (lines ++ more) ss ≡ calls_at lines ss
calls_at-more lines more [] h = refl
calls_at-more {A} lines more (s ∷ ss) h =
    ap (λ (o : Option (LineView A)). calls_on s.from o ++ calls_at (lines ++ more) ss) (there_more lines more s.line h.0)
    ∙ ap (λ zs. calls_on s.from (slice_get lines s.line) ++ zs) (calls_at-more lines more ss h.1)

below-more : (n m : ℕ) (ss : List LogSegment) → n ≤ m → AreBelow n ss → AreBelow m ss
below-more n m [] le h = tt
below-more n m (s ∷ ss) le h = (omega (arith, h.0, le), below-more n m ss le h.1)

-- ---- the log after one more line

-- the log of the lines is this one
pub record IsLogged {A : Type 0} (lines : List (LineView A)) (longest : List (Call A)) : Type 0 where
  pub below : AreBelow (length lines) (log_of_lines lines).segments
  pub total : (log_of_lines lines).total ≡ length longest
  pub calls_are : longest_log lines ≡ longest

module _ {A : Type 0} (lines : List (LineView A)) (l : LineView A) (longest : List (Call A)) (is : IsLogged lines longest) where
  -- with the line's calls past it
  abbrev next : List (Call A)
  next = longest ++ calls_past (length longest) l.step.committed l.step.calls

  -- the log after the line
  pub record Now (new : LogView) : Type 0 where
    pub below : AreBelow (length (lines ++ l ∷ [])) new.segments
    pub total : new.total ≡ length next
    pub calls_are : calls_at (lines ++ l ∷ []) new.segments ≡ next

  kept-calls : calls_at (lines ++ l ∷ []) (log_of_lines lines).segments ≡ longest
  kept-calls = calls_at-more lines (l ∷ []) (log_of_lines lines).segments is.below ∙ is.calls_are

  still-below : AreBelow (length (lines ++ l ∷ [])) (log_of_lines lines).segments
  still-below = below-more (length lines) (length (lines ++ l ∷ [])) (log_of_lines lines).segments (omega (arith, length-append lines (l ∷ []))) is.below

  stays : l.step.committed ≤ length longest → Now (log_of_lines lines)
  stays le =
      let calls = l.step.calls in
      let n : length calls - (l.step.committed - length longest) ≡ length calls = omega (arith, le) in
      let none : next ≡ longest =
      ap (λ (k : ℕ). longest ++ drop k calls) n
      ∙ (ap (λ (zs : List (Call A)). longest ++ zs) (drop_all (length calls) calls (omega arith)) ∙ append-nil longest) in
      record { below = still-below; total = is.total ∙ ap length (sym none); calls_are = kept-calls ∙ sym none }

  longer_is : length longest < l.step.committed → l.step.committed ≤ length next → Now (log_extended (length lines) (log_of_lines lines) l.step)
  longer_is lt within =
      let s = l.step in
      let from : ℕ = length s.calls - (s.committed - (log_of_lines lines).total) in
      let past : ℕ = length s.calls - (s.committed - length longest) in
      let segment : LogSegment = record { line = length lines; from = from } in
      let last : calls_on from (slice_get (lines ++ l ∷ []) (length lines)) ≡ drop past s.calls =
      ap (calls_on from) (get-last lines l) ∙ ap (λ (n : ℕ). drop (length s.calls - (s.committed - n)) s.calls) is.total in
      let calls : calls_at (lines ++ l ∷ []) ((log_of_lines lines).segments ++ segment ∷ []) ≡ next =
      calls_at-append (lines ++ l ∷ []) (log_of_lines lines).segments (segment ∷ [])
      ∙ (ap (λ zs. zs ++ (calls_on from (slice_get (lines ++ l ∷ []) (length lines)) ++ [])) kept-calls
      ∙ ap (λ zs. longest ++ zs) (append-nil (calls_on from (slice_get (lines ++ l ∷ []) (length lines))) ∙ last)) in
      record {
        below = each-push (λ (r : LogSegment). r.line < length (lines ++ l ∷ [])) (log_of_lines lines).segments segment still-below
            (omega (arith, length-append lines (l ∷ [])));
        total = omega (arith, lt, within, length-append longest (drop past s.calls), length-drop past s.calls);
        calls_are = calls;
      }

  now-is : l.step.committed ≤ length next → (b : Bool) → nat_lt (log_of_lines lines).total l.step.committed ≡ b
      → Now (if b then log_extended (length lines) (log_of_lines lines) l.step else log_of_lines lines)
  now-is within true e = longer_is (grind (arith, nat_tests, is.total, e)) within
  now-is within false e = stays (grind (arith, nat_tests, is.total, e))

  -- no more is committed than there is
  pub logged-next : l.step.committed ≤ length next → IsLogged (lines ++ l ∷ []) next
  logged-next within =
      let m = subst Now (sym (log_of_lines-snoc lines l)) (now-is within (nat_lt (log_of_lines lines).total l.step.committed) refl) in
      record { below = m.below; total = m.total; calls_are = m.calls_are }
