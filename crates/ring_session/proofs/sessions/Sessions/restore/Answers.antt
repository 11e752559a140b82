use Rattle.std.proofs.Common.{◌≡◌, None, refl}
use Rattle.std.proofs.lemmas.Result.{err_from_is_err_and}
use Rattle.ring_object.specs.Bytes.{AreBytes-fits}
use Rattle.ring_session.specs.Snapshots.{parts_at}
use Rattle.ring_session.proofs.Parts.{table-kept, table-refused, table-memory, table-there}
use Rattle.ring_session.proofs.sessions.Sessions.restore.Goals as goal

pub read_clients-requires : goal.read_clients-requires
read_clients-requires g c = c.in-Some.ensures.1

pub returns-in_default-clause-refused : goal.returns-in_default-clause-refused
returns-in_default-clause-refused g c =
    let none : parts_at c.args.bytes.now ≡ None = c.in_default.ensures in
    rw none refl

pub invariant_of-result : goal.invariant_of-result
invariant_of-result g c =
    let s = c.in-Some in
    table-kept g.O.Object.sequential.restored c.args.bytes.now s.count s.clients.now s.object.now s.ensures c.in_ok-sessions.sessions.entries
    c.in_ok-object.object (AreBytes-fits c.args.bytes.now c.type_inv.bytes) c.in_ok-sessions.ensures.ok

pub returns-in_err-object-clause-refused : goal.returns-in_err-object-clause-refused
returns-in_err-object-clause-refused g c =
    let s = c.in-Some in
    let p = err_from_is_err_and c.from_residual.result c.from_residual.ensures.1 in
    rw (p.1, p.2) (table-refused g.O.Object.sequential.restored c.args.bytes.now s.count s.clients.now s.object.now s.ensures _ c.in_err-object.ensures.refused)

pub returns-in_err-sessions-clause-refused : goal.returns-in_err-sessions-clause-refused
returns-in_err-sessions-clause-refused g c =
    let s = c.in-Some in
    let p = err_from_is_err_and c.from_residual-in_err-sessions.result c.from_residual-in_err-sessions.ensures.1 in
    rw (p.1, p.2, c.in_err-sessions.ensures.refused) (table-memory g.O.Object.sequential.restored c.args.bytes.now s.count s.clients.now s.object.now
    s.ensures c.in_ok-object.object c.in_ok-object.ensures.ok)

pub returns-clause-ok : goal.returns-clause-ok
returns-clause-ok g c =
    let s = c.in-Some in
    table-there g.O.Object.sequential.restored c.args.bytes.now s.count s.clients.now s.object.now s.ensures c.in_ok-sessions.sessions.entries
    c.in_ok-object.object c.in_ok-sessions.ensures.ok c.in_ok-object.ensures.ok
