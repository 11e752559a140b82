use Rattle.ring_sweep.proofs.Trying.{has_events}
use Rattle.ring_sweep.proofs.sweeping.count_from.Goals as goal

pub returns-clause-ok : goal.returns-clause-ok
returns-clause-ok g c =
    let w = c.args.whole.now in
    let f = c.run_lines.new.self in
    has_events g.O.Object.sequential c.args.script.now.nodes c.args.script.now.lines.items c.as_slice.result.now w.run f.run w.events_done f.events_done
    c.done.result c.as_slice.ensures.value c.requires.opening.0 c.requires.opening.1 c.in_ok-run_lines.ensures.ok c.done.ensures
