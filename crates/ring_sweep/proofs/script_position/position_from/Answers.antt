use Rattle.std.proofs.Common.{ℕ, sym, subst}
use Rattle.ring_sweep.specs.ScriptPositions.{IsScriptPosition}
use Rattle.ring_sweep.proofs.Gapping.{opened, is_gap}
use Rattle.ring_sweep.proofs.script_position.position_from.Goals as goal

pub go_to-requires-clause-come : goal.go_to-requires-clause-come
go_to-requires-clause-come g c =
    let base_run = c.args.base_run.now in
    let e = c.requires in
    opened g.O.Object.sequential c.args.script.now.nodes c.args.script.now.lines.items base_run.lines base_run.turns base_run.counted_run.events_done base_run.counted_run.run
    e.place.0 e.place.1 e.counted_run.1 e.counted_run.0

pub returns-clause-ok : goal.returns-clause-ok
returns-clause-ok g c =
    let base_run = c.go_to.new.self in
    subst (λ (n : ℕ). IsScriptPosition g.O.Object.sequential c.args.script.now.nodes c.args.script.now.lines.items c.args.before
    (record { lines = base_run.lines; turns = base_run.turns; events = n })) (sym c.done.ensures)
    (is_gap g.O.Object.sequential c.args.script.now.nodes c.args.script.now.lines.items c.args.before
    (record { lines = base_run.lines; turns = base_run.turns; events = base_run.counted_run.events_done }) base_run.counted_run.run c.in_ok-go_to.ensures.come c.in_ok-go_to.ensures.due
    c.in_ok-go_to.ensures.step)
