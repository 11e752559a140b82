use Rattle.std.proofs.Common.{◌≡◌, length}
use Rattle.ring_script.specs.Scripts.{nodes_in}
use Rattle.ring_script.proofs.scripts.read_nodes.Given as goal

-- The remaining lines give the same nodes as all lines.
abbrev pub invariant-loop-number : goal.invariant-loop-number
invariant-loop-number l = nodes_in l.lines.before l.lines.lines ≡ nodes_in l.initial.lines.before l.initial.lines.lines

abbrev pub decreases-loop-number : goal.decreases-loop-number
decreases-loop-number l = length l.lines.lines
