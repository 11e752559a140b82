use Rattle.ring_wire.specs.Tokens.{token_at}
use Rattle.ring_wire.proofs.token.BorrowedToken.read.Goals as goal

pub returns : goal.returns
unfolding token_at
returns g c =
    let tested = rw c.is_valid_token-is_valid.ensures at (c.checked_token.ensures c.read_borrowed_requests.new.from) in
    rw (
      c.in_ok-read.ensures,
      c.in_ok-read-2.ensures,
      c.in_ok-read-3.ensures,
      c.in_ok-read-4.ensures,
      c.in_ok-read-5.ensures,
      c.in_ok-read_borrowed_requests.ensures.read,
    ) tested
