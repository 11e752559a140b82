use Rattle.ring_session.specs.Snapshots.{clients_in}
use Rattle.ring_session.proofs.Clients.{next_there, AreRead-start, AreRead-more, AreRead-end}
use Rattle.ring_session.proofs.Parts.{mapped_some, mapped_there}
use Rattle.ring_session.proofs.snapshots.read_clients.Goals as goal

pub unwrap-client_entry-requires : goal.unwrap-client_entry-requires
unwrap-client_entry-requires g c =
    let l = c.loop-i in
    mapped_there _ c.split_off_client.result _ c.split_off_client.ensures
    (next_there c.args.count l._i l.low l.rest.now c.loop-i-test.true l.invariant.more)

pub loop-i-init : goal.loop-i-init
loop-i-init g c = rw c.new-sessions.ensures.empty (AreRead-start c.args.count c.args.bytes.now c.requires)

pub loop-i-preserved : goal.loop-i-preserved
loop-i-preserved g c =
    let l = c.loop-i in
    let first = c.unwrap-client_entry.result in
    let next = mapped_some _ c.split_off_client.result _ first c.split_off_client.ensures c.unwrap-client_entry.ensures in
    let put = rw (c.client.ensures, c.in_ok-last.ensures.ok) at c.in_ok-insert.ensures.entries in
    AreRead-more (clients_in c.args.count c.args.bytes.now) c.args.count l._i l.low c.next_client_low-low.result l.rest.now first.1.now
    l.sessions.entries c.insert.new.self.entries first.0 l.invariant c.loop-i-test.true next c.next_client_low-low.ensures put

pub returns-clause-ok : goal.returns-clause-ok
returns-clause-ok g c =
    let l = c.loop-i in
    AreRead-end (clients_in c.args.count c.args.bytes.now) c.args.count l._i l.low l.rest.now l.sessions.entries l.invariant c.loop-i-test.false
