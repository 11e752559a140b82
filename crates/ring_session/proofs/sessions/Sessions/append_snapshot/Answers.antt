use Rattle.ring_session.proofs.Parts.{stays-either}
use Rattle.ring_session.proofs.sessions.Sessions.append_snapshot.Goals as goal

pub returns-clause-front : goal.returns-clause-front
returns-clause-front g c =
    let old = c.args.out.now in
    stays-either c.append_sized_snapshot.result old.items c.append_clients.new.out.items c.append_sized_snapshot.new.out.items _ old.len old.ok.0
    c.in_ok-append_clients.ensures.front c.append_sized_snapshot.ensures.ok c.append_sized_snapshot.ensures.err
