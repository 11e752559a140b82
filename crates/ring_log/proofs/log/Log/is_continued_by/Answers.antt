use Rattle.std.proofs.Common.{◌-◌, arith}
use Rattle.ring_log.proofs.Calls.{begins_based, begins-same}
use Rattle.ring_log.proofs.log.Log.is_continued_by.Goals as goal

pub returns : goal.returns
returns g c =
    let log = c.args.self.now in
    let base = c.args.base.now in
    begins_based (log.committed - log.trimmed) (base.from - log.trimmed) (log.trimmed - base.from) c.min-same.result c.min-dropped.result log.calls
    c.committed_calls-committed.result.now base.calls c.as_slice-received_calls.result.now c.is_call_prefix.result
    c.committed_calls-committed.ensures (omega arith) c.as_slice-received_calls.ensures (omega arith)
    (begins-same _ _ c.is_call_prefix.result c.is_call_prefix.ensures)
