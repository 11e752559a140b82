-- Nothing above the highest is held.
use Rattle.std.proofs.Common.{◌+◌, ◌≤◌, arith}
use Rattle.ring_window.specs.Held.{highest}
use Rattle.ring_recover.proofs.Planning.{from_beyond}
use Rattle.ring_recover.proofs.plan.is_sent_by_any.Goals as goal

pub returns-then-reach-offset : goal.returns-then-reach-offset
returns-then-reach-offset g c =
    let w = c.args.window.now in
    let top : highest w.held w.ring ≤ c.args.after + c.args.offset = omega (arith, c.highest.ensures, c.saturating_sub-reach.ensures, c.if-reach-offset.true) in
    from_beyond c.args.senders w c.args.after c.args.offset top
