use Rattle.ring_failure.proofs.WriterSlotLemmas.{at_ok}
use Rattle.ring_trace.proofs.trace_command.trace_of.Goals as goal

pub returns-in-Ok-clause-whole : goal.returns-in-Ok-clause-whole
returns-in-Ok-clause-whole g c = λ zero. at_ok c.trace_text-done.result c.trace_text-done.ensures (c.exit_status-status.ensures.ok (c.report_selection.ensures.ok zero))
