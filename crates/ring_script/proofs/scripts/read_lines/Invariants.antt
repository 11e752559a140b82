use Rattle.std.proofs.Common.{◌≡◌, true, length, map}
use Rattle.std.specs.List.{list_all}
use Rattle.ring_script.specs.Scripts.{requests_in, numbered_by}
use Rattle.ring_script.specs.Words.{are_ascii}
use Rattle.ring_script.proofs.Readings.{behind}
use Rattle.ring_script.proofs.scripts.read_lines.Given as goal

-- The requests parsed so far, and then those of the remaining lines, are those of all lines; `is_plain` holds of the
-- remaining lines.
abbrev pub invariant-loop-number : goal.invariant-loop-number
invariant-loop-number g l = record {
  read :
      behind (map numbered_by l.numbered_lines.items) (requests_in g.V.Vocabulary.forms l.nodes l.lines.before l.lines.lines)
      ≡ requests_in g.V.Vocabulary.forms l.nodes l.initial.lines.before l.initial.lines.lines;
  plain : l.is_plain ≡ true → list_all are_ascii l.lines.lines ≡ true;
}

abbrev pub decreases-loop-number : goal.decreases-loop-number
decreases-loop-number g l = length l.lines.lines
