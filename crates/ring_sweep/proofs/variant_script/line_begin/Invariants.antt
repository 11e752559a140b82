use Rattle.ring_sweep.proofs.TextLines.{IsAtLine}
use Rattle.ring_sweep.proofs.variant_script.line_begin.Given as goal

-- The text so far has all lines before this one.
abbrev pub invariant-loop-index : goal.invariant-loop-index
invariant-loop-index l = IsAtLine l.text l.number l.index l.line
