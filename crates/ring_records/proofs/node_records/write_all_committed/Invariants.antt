use Rattle.std.proofs.Common.{take}
use Rattle.std.specs.Io.KnownBytes.{Appends}
use Rattle.ring_records.specs.NodeRecords.{all_committed_text}
use Rattle.ring_records.proofs.node_records.write_all_committed.Given as goal

-- The calls so far are written.
abbrev pub invariant-loop-call : goal.invariant-loop-call
invariant-loop-call g l = Appends (g.W.Write.contents l.initial.out) (g.W.Write.contents l.out) (all_committed_text (take l.call-index l.calls))
