-- The reasons why a text isn't a script.
-- Formats: Scripts
use Rattle.std.specs.Prelude.{◌≤◌, ⊤}
use Rattle.ring_script.specs.declared.scripts.ScriptFault.{ScriptFault}
use Rattle.ring_script.specs.declared.scripts.ScriptFault.TheVariants.{Memory, AtLine}

-- A line at fault is a line of the text or the one after its last; lines are counted from 1.
abbrev pub IsOfText : ScriptFault → Type 0
IsOfText Memory = ⊤
IsOfText (AtLine line) = 1 ≤ line
