use Rattle.std.proofs.Common.{take}
use Rattle.std.specs.Io.KnownBytes.{Appends}
use Rattle.ring_records.specs.NodeRecords.{answers_text}
use Rattle.ring_records.proofs.node_records.write_answers.Given as goal

-- The answers so far are written.
abbrev pub invariant-loop-answered : goal.invariant-loop-answered
invariant-loop-answered g l = Appends (g.W.Write.contents l.initial.out) (g.W.Write.contents l.out) (answers_text (take l.answered-index l.answers))
