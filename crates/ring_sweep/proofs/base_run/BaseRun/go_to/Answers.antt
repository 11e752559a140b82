-- One line after another, up to the event.
use Rattle.std.proofs.Common.{ℕ, sym, subst, refl, ◌∙◌, arith}
use Rattle.ring_sweep.specs.ScriptPositions.{HasReachedEvent, IsBeforeStep, IsPlace, left_of}
use Rattle.ring_sweep.specs.Variants.{IsDue}
use Rattle.ring_sweep.proofs.Gapping.{place_within, read_line, line_past, line_found, step_found, come_behind, step_behind}
use Rattle.ring_sweep.proofs.base_run.BaseRun.go_to.Goals as goal

pub take_line_until-requires-clause-within : goal.take_line_until-requires-clause-within
take_line_until-requires-clause-within g c =
    let lines = c.args.script.now.lines in
    let k = c.loop-index.index in
    let l = c.index.result.now in
    let here = read_line g.O.Object.sequential lines.items k c.len-index-end.result l c.loop-index-test.true
    (c.len-index-end.ensures ∙ lines.ok.0) c.index.ensures in
    place_within lines.items k c.loop-index.self.turns l here c.loop-index.invariant.1.place

pub returns-in-Some-clause-come : goal.returns-in-Some-clause-come
returns-in-Some-clause-come g c =
    let object = g.O.Object.sequential in
    let script = c.args.script.now in
    let k = c.loop-index.index in
    let old = c.loop-index.self in
    let new = c.take_line_until.new.self in
    let l = c.index.result.now in
    let here = read_line object script.lines.items k c.len-index-end.result l c.loop-index-test.true
    (c.len-index-end.ensures ∙ script.lines.ok.0) c.index.ensures in
    let found = line_found object script.nodes script.lines.items k old.turns c.in-Some.turns c.args.before old.counted_run.events_done new.events_done l
    c.in_ok-turns.field-0 old.counted_run.run new.run here c.loop-index.invariant.1 c.in_ok-turns.ensures.ok c.in-Some.is in
    subst (λ (n : ℕ). HasReachedEvent object script.nodes script.lines.items n c.in-Some.turns new.events_done new.run) (sym c.loop-index.invariant.0) found.0

pub returns-in-Some-clause-due : goal.returns-in-Some-clause-due
returns-in-Some-clause-due g c =
    let object = g.O.Object.sequential in
    let script = c.args.script.now in
    let k = c.loop-index.index in
    let old = c.loop-index.self in
    let new = c.take_line_until.new.self in
    let l = c.index.result.now in
    let here = read_line object script.lines.items k c.len-index-end.result l c.loop-index-test.true
    (c.len-index-end.ensures ∙ script.lines.ok.0) c.index.ensures in
    let found = line_found object script.nodes script.lines.items k old.turns c.in-Some.turns c.args.before old.counted_run.events_done new.events_done l
    c.in_ok-turns.field-0 old.counted_run.run new.run here c.loop-index.invariant.1 c.in_ok-turns.ensures.ok c.in-Some.is in
    subst (λ (n : ℕ). IsDue object (left_of script.lines.items n c.in-Some.turns) new.events_done c.args.before new.run) (sym c.loop-index.invariant.0) found.1

pub returns-in-Some-clause-step : goal.returns-in-Some-clause-step
returns-in-Some-clause-step g c =
    let object = g.O.Object.sequential in
    let lines = c.args.script.now.lines in
    let k = c.loop-index.index in
    let old = c.loop-index.self in
    let new = c.take_line_until.new.self in
    let l = c.index.result.now in
    let here = read_line object lines.items k c.len-index-end.result l c.loop-index-test.true
    (c.len-index-end.ensures ∙ lines.ok.0) c.index.ensures in
    subst (λ (n : ℕ). IsBeforeStep lines.items n c.in-Some.turns) (sym c.loop-index.invariant.0)
    (step_found object lines.items k old.turns c.in-Some.turns c.args.before old.counted_run.events_done new.events_done l
    c.in_ok-turns.field-0 old.counted_run.run new.run here c.in_ok-turns.ensures.ok c.in-Some.is)

pub loop-index-preserved : goal.loop-index-preserved
loop-index-preserved g c =
    let object = g.O.Object.sequential in
    let script = c.args.script.now in
    let k = c.loop-index.index in
    let old = c.loop-index.self in
    let new = c.take_line_until.new.self in
    let l = c.index.result.now in
    let here = read_line object script.lines.items k c.len-index-end.result l c.loop-index-test.true
    (c.len-index-end.ensures ∙ script.lines.ok.0) c.index.ensures in
    let past = line_past object script.nodes script.lines.items k old.turns c.args.before old.counted_run.events_done new.events_done l c.in_ok-turns.field-0
    old.counted_run.run new.run here c.loop-index.invariant.1 c.loop-index.invariant.2 c.in_ok-turns.ensures.ok c.in_default.is in
    (refl, past.0, past.1)

pub returns-clause-due : goal.returns-clause-due
returns-clause-due g c =
    let lines = c.args.script.now.lines in
    let here = c.loop-index.self in
    let all = c.len-index-end.ensures ∙ lines.ok.0 in
    let same = c.loop-index.invariant.0 in
    come_behind g.O.Object.sequential lines.items here.lines here.turns here.counted_run.events_done c.args.before here.counted_run.run
    (omega (arith, all, same, c.loop-index-test.false)) c.loop-index.invariant.2

pub returns-clause-step : goal.returns-clause-step
returns-clause-step g c =
    let lines = c.args.script.now.lines in
    let here = c.loop-index.self in
    let all = c.len-index-end.ensures ∙ lines.ok.0 in
    let same = c.loop-index.invariant.0 in
    step_behind lines.items here.lines here.turns (omega (arith, all, same, c.loop-index-test.false))
    (subst (λ (n : ℕ). IsPlace lines.items n here.turns) (sym same) c.loop-index.invariant.1.place)
