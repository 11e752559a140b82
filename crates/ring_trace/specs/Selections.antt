-- The events to report.
-- Formats: The command line
use Rattle.std.specs.Prelude.{◌≡◌, ℕ, ◌^◌, ◌-◌, Option, Some, None, ⊤}
use Rattle.ring_trace.specs.declared.selection.Selection.{Selection}

-- The selection of all events, which are counted from 1.
abbrev pub all_events : Selection
all_events = record { node = None; from = 0; to = 2 ^ 64 - 1 }

-- Whether an event at a node is reported, given the selected node. Without a selected node all are, and events at no
-- node always are.
abbrev pub IsOf : Option ℕ → Option ℕ → Type 0
IsOf (Some node) (Some at) = node ≡ at
IsOf None at = ⊤
IsOf (Some node) None = ⊤
