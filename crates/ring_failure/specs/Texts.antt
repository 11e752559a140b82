-- Lines of text, and words that several outputs use.
-- Formats: What a script prints
use Rattle.std.specs.Prelude.{ℕ, Bool, true, false, List, [], ◌∷◌, ◌++◌, codes}
use Rattle.ring_base.specs.declared.state.State.{State}
use Rattle.ring_base.specs.declared.state.State.TheVariants.{Gather, Commit, Recovery, Operational, Stopped}

-- The text as a line, ended by a line feed.
abbrev pub line_of : List ℕ → List ℕ
line_of text = text ++ 10 ∷ []

-- The name of a state.
abbrev pub state_name_text : State → List ℕ
state_name_text Gather = codes "gather"
state_name_text Commit = codes "commit"
state_name_text Recovery = codes "recovery"
state_name_text Operational = codes "operational"
state_name_text Stopped = codes "stopped"

-- The line that says whether a run is legal.
abbrev pub legal_text : Bool → List ℕ
legal_text true = codes "legal yes"
legal_text false = codes "legal no"
