use Rattle.std.proofs.Common.{◌++◌, ap, ◌∙◌}
use Rattle.ring_session.proofs.Clients.{last_written}
use Rattle.ring_session.proofs.snapshots.append_number.Goals as goal

pub returns-clause-ok : goal.returns-clause-ok
returns-clause-ok g c =
    c.in_ok-extend_from_slice.ensures.items
    ∙ ap (λ x. c.args.out.now.items ++ x) (last_written c.args.width c.args.number c.write_u64.new.buf c.requires c.write_u64.ensures)
