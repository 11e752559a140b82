-- The longest committed log of all nodes, computed from the lines: a line that makes it longer adds its last calls. A line
-- whose node restored a snapshot has no calls for the places that the snapshot replaces; other nodes had committed them
-- before.
-- Rules: Sessions 10; The replicated log 16
use Rattle.std.specs.Prelude.{ℕ, suc, ◌-◌, nat_lt, List, [], ◌∷◌, ◌++◌, length, take, drop, Option, Some, None, slice_get, if◌then◌else◌}
use Rattle.ring_payload.specs.declared.call.Call.{Call}
use Rattle.ring_book_lines.specs.declared.committed_segments.LogSegment.{LogSegment}
use Rattle.ring_book_lines.specs.Lines.{steps_of}
use Rattle.ring_book_lines.specs.Steps.{StepView, LineView}

-- the length of the longest committed log, and the segments of lines that make it up
pub record LogView : Type 0 where
  pub total : ℕ
  pub segments : List LogSegment

-- nothing is committed
abbrev pub empty_log : LogView
empty_log = record { total = 0; segments = [] }

-- the log extended by the step of line n, whose last calls go past the log's end
abbrev pub log_extended : {A : Type 0} → ℕ → LogView → StepView A → LogView
log_extended n log s = record {
  total = s.committed;
  segments = log.segments ++ record { line = n; from = length s.calls - (s.committed - log.total) } ∷ [];
}

-- the log after the step of line n: longer if its node has now committed more places than any node before
abbrev pub log_after_step : {A : Type 0} → ℕ → LogView → StepView A → LogView
log_after_step n log s = if nat_lt log.total s.committed then log_extended n log s else log

-- the log after these lines, the first of which has number n
abbrev pub log_after_lines : {A : Type 0} → ℕ → LogView → List (LineView A) → LogView
log_after_lines n log [] = log
log_after_lines n log (l ∷ ls) = log_after_lines (suc n) (log_after_step n log l.step) ls

-- the longest committed log of the lines: its length and its segments
abbrev pub log_of_lines : {A : Type 0} → List (LineView A) → LogView
log_of_lines lines = log_after_lines 0 empty_log lines

-- the calls of a line from index `from` on, if there is the line
abbrev pub calls_on : {A : Type 0} → ℕ → Option (LineView A) → List (Call A)
calls_on from None = []
calls_on from (Some l) = drop from l.step.calls

-- the calls of these segments
abbrev pub calls_at : {A : Type 0} → List (LineView A) → List LogSegment → List (Call A)
calls_at lines [] = []
calls_at lines (s ∷ ss) = calls_on s.from (slice_get lines s.line) ++ calls_at lines ss

-- the longest committed log
abbrev pub longest_log : {A : Type 0} → List (LineView A) → List (Call A)
longest_log lines = calls_at lines (log_of_lines lines).segments

-- a node's committed length after these steps, from `places` on
abbrev pub places_after : {A : Type 0} → ℕ → List (StepView A) → ℕ
places_after places [] = places
places_after places (s ∷ ss) = places_after s.committed ss

-- a node's committed length, by its last line; 0 if it has none
abbrev pub committed_places_of : {A : Type 0} → ℕ → List (LineView A) → ℕ
committed_places_of node lines = places_after 0 (steps_of node lines)

-- a node's committed log, from its beginning: a prefix of the longest committed log
abbrev pub committed_calls_of : {A : Type 0} → ℕ → List (LineView A) → List (Call A)
committed_calls_of node lines = take (committed_places_of node lines) (longest_log lines)
