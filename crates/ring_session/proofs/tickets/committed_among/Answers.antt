-- The tickets of all committed calls are marked.
use Rattle.std.proofs.Common.{subst, List}
use Rattle.std.proofs.lemmas.List.{take_all}
use Rattle.ring_payload.specs.declared.call.Call.{Call}
use Rattle.ring_session.specs.Buckets.{AreCommitted}
use Rattle.ring_session.proofs.tickets.committed_among.Goals as goal

pub returns : goal.returns
returns g c =
    subst (λ (calls : List (Call g.row.A.Denot)). AreCommitted c.loop-call.committed_flags.committed_marks calls c.args.pending.now)
    (take_all c.loop-call.call-index c.args.committed.now c.loop-call-test.false) c.loop-call.invariant
