use Rattle.std.proofs.Common.{◌≡◌, ap}
use Rattle.ring_timers.specs.Periods.{period_of}
use Rattle.ring_timers.specs.Timers.{TimersView}
use Rattle.ring_timers.proofs.timers.Timers.due_at.Goals as goal

pub returns : goal.returns
returns c =
    let period : period_of c.self.inside.periods c.args.kind ≡ period_of c.args.self.now.periods c.args.kind =
    ap (λ (v : TimersView). period_of v.periods c.args.kind) c.self.view_is in
    cc
