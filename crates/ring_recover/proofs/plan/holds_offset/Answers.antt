-- Nothing above the highest is held.
use Rattle.std.proofs.Common.{◌+◌, ◌≤◌, ◌∙◌, arith}
use Rattle.std.proofs.lemmas.Bool.{le-ltb}
use Rattle.ring_window.specs.Held.{highest}
use Rattle.ring_recover.proofs.Planning.{held_beyond}
use Rattle.ring_recover.proofs.plan.holds_offset.Goals as goal

pub returns-else-offset-reach : goal.returns-else-offset-reach
returns-else-offset-reach g c =
    let w = c.args.window.now in
    let top : highest w.held w.ring ≤ c.args.after + c.args.offset = omega
    (arith, c.highest.ensures, c.saturating_sub-reach.ensures, c.if-offset-reach.false) in
    le-ltb c.args.offset c.saturating_sub-reach.result c.if-offset-reach.false ∙ held_beyond w.held w.ring c.args.after c.args.offset top
