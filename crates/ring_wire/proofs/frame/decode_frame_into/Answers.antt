use Rattle.ring_wire.specs.Frames.{frame_after_kind}
use Rattle.ring_wire.proofs.frame.decode_frame_into.Goals as goal

pub returns-in-1 : goal.returns-in-1
returns-in-1 g c =
    let behind = frame_after_kind {A = g.row.A.Denot} _ _ _ _ _ _ _ _ _ c.if-first.false c.if-second.false
    c.in_ok-first.ensures c.in_ok-second.ensures c.in_ok-version.ensures
    c.in_ok-kind.ensures in
    rw behind (rw c.in-1.is c.read_message.ensures)

pub returns-in-2 : goal.returns-in-2
returns-in-2 g c =
    let behind = frame_after_kind {A = g.row.A.Denot} _ _ _ _ _ _ _ _ _ c.if-first.false c.if-second.false
    c.in_ok-first.ensures c.in_ok-second.ensures c.in_ok-version.ensures
    c.in_ok-kind.ensures in
    rw behind (rw c.in-2.is c.read_token.ensures)

pub returns-in-3 : goal.returns-in-3
returns-in-3 g c =
    let behind = frame_after_kind {A = g.row.A.Denot} _ _ _ _ _ _ _ _ _ c.if-first.false c.if-second.false
    c.in_ok-first.ensures c.in_ok-second.ensures c.in_ok-version.ensures
    c.in_ok-kind.ensures in
    rw behind (rw c.in-3.is c.read_join.ensures)

pub returns-in-4 : goal.returns-in-4
returns-in-4 g c =
    let behind = frame_after_kind {A = g.row.A.Denot} _ _ _ _ _ _ _ _ _ c.if-first.false c.if-second.false
    c.in_ok-first.ensures c.in_ok-second.ensures c.in_ok-version.ensures
    c.in_ok-kind.ensures in
    rw behind (rw c.in-4.is c.read_commit.ensures)
