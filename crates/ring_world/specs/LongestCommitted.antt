-- The longest committed log of all nodes, from its beginning, in the segments that steps gave.
-- Rules: The replicated log 18 and 20; The book and the threads 1 to 8
use Rattle.std.specs.Prelude.{ℕ, List, [], ◌∷◌, ◌++◌}
use Rattle.ring_payload.specs.declared.call.Call.{Call}

-- the view of contracts: the calls, and the number of segments that there is still room for
pub record LongestCommittedView (A : Type 0) : Type 0 where
  pub calls : List (Call A)
  pub places : ℕ

-- the calls of the segments, one after another
abbrev pub calls_of : {A : Type 0} → List (List (Call A)) → List (Call A)
calls_of [] = []
calls_of (s ∷ ss) = s ++ calls_of ss
