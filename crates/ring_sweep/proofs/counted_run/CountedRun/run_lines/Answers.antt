use Rattle.std.proofs.Common.{length, refl, List, subst}
use Rattle.std.proofs.lemmas.Option.{slice_get_read}
use Rattle.ring_script.specs.declared.line.ScriptLine.{ScriptLine}
use Rattle.ring_sweep.specs.Variants.{AreStepsDone}
use Rattle.ring_sweep.proofs.Gapping.{left_whole}
use Rattle.ring_sweep.proofs.Walking.{passes_line}
use Rattle.ring_sweep.proofs.counted_run.CountedRun.run_lines.Goals as goal

pub loop-numbered-preserved : goal.loop-numbered-preserved
loop-numbered-preserved g c =
    let object = g.O.Object.sequential in
    let lines = c.args.lines.now in
    let item = c.numbered-item.result in
    let run = c.loop-numbered.self in
    let next = c.take_line.new.self in
    let here = slice_get_read lines (length lines) c.loop-numbered.numbered-index item refl c.loop-numbered-test.true c.numbered-item.is in
    passes_line object lines c.loop-numbered.numbered-index item c.args.self.now.events_done run.events_done next.events_done c.args.self.now.run run.run next.run here
    c.loop-numbered.invariant
    (subst (λ (ls : List (ScriptLine g.row.O-Alloc.Denot)). AreStepsDone object ls run.events_done next.events_done run.run next.run) (left_whole item.line)
    c.in_ok-take_line.ensures.ok)
