use Rattle.std.proofs.Common.{◌≡◌, length}
use Rattle.ring_script.specs.Cuts.{cut_at}
use Rattle.ring_script.proofs.Cutting.{cut_after}
use Rattle.ring_script.proofs.groups.Groups.parse.Given as goal

-- The remaining words complete the groups so far to the cut that all words denote.
abbrev pub invariant-loop-word : goal.invariant-loop-word
invariant-loop-word l = cut_after l.nodes l.count l.placed l.groups l.words ≡ cut_at l.nodes l.initial.words

abbrev pub decreases-loop-word : goal.decreases-loop-word
decreases-loop-word l = length l.words
