use Rattle.std.proofs.Common.{◌≡◌, ◌≤◌, ap, arith}
use Rattle.ring_timers.specs.Periods.{period_of}
use Rattle.ring_timers.specs.Timers.{TimersView}
use Rattle.ring_timers.proofs.Durations.{is_over}
use Rattle.ring_timers.proofs.timers.Timers.is_due.Goals as goal

pub returns : goal.returns
returns c =
    let period : period_of c.self.inside.periods c.args.kind ≡ period_of c.args.self.now.periods c.args.kind =
    ap (λ (v : TimersView). period_of v.periods c.args.kind) c.self.view_is in
    let time : c.self.inside.time ≡ c.args.self.now.time = ap (λ (v : TimersView). v.time) c.self.view_is in
    let past : c.count_begin.result ≤ c.max.result = omega (arith, c.count_begin.ensures.past, c.max.ensures, time) in
    let over = is_over c.count_begin.result c.from.result c.max.result past in
    cc
