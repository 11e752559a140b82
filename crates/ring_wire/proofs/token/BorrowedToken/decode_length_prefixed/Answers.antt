use Rattle.ring_wire.proofs.token.BorrowedToken.decode_length_prefixed.Goals as goal

pub returns : goal.returns
returns g c =
    let token = rw c.new-body.ensures at c.in_ok-token.ensures in
    let ended = rw c.len.ensures at (c.checked_token.ensures c.take_bytes.new.self) in
    rw (c.in_ok-len.ensures, c.in_ok-take_bytes.ensures, token) ended
