use Rattle.std.proofs.Common.{◌≡◌, length}
use Rattle.std.specs.Io.KnownBytes.{Keeps}
use Rattle.ring_records.proofs.reading.read_retrying.Given as goal

-- The buffer keeps its length, and interrupted reads took nothing.
abbrev pub invariant-loop : goal.invariant-loop
invariant-loop g l = (length l.room ≡ length l.initial.room) × Keeps (g.R.Read.remaining l.initial.input) (g.R.Read.remaining l.input)
