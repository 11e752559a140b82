use Rattle.std.proofs.Common.{◌≡◌, ◌∙◌, ◌++◌, List, refl, sym, subst}
use Rattle.std.proofs.lemmas.List.{map-id}
use Rattle.std.proofs.lemmas.Iterator.Adapters.{YieldsList-from_vec}
use Rattle.std.proofs.lemmas.Iterator.Consumers.{YieldsList-end, YieldsList-turn}
use Rattle.std.proofs.lemmas.Option.{slice_get_read}
use Rattle.ring_base.proofs.Each.{each-get}
use Rattle.ring_script.specs.declared.scripts.NumberedLine.{NumberedLine}
use Rattle.ring_script.specs.Fits.{IsFit}
use Rattle.ring_console.specs.Running.{AreLinesDone, text_of}
use Rattle.ring_console.proofs.PrintedLines.{AreLinesDone-snoc}
use Rattle.ring_trace.proofs.tracer.Tracer.trace_lines.Goals as goal

pub trace_line-requires : goal.trace_line-requires
trace_line-requires g c =
    let begun = c.into_iter-numbered-iterator.ensures.into_iter_gives in
    let turn = YieldsList-turn (YieldsList-from_vec c.args.script.lines.items begun.0
    (begun.1 ∙ c.args.script.lines.ok.0)) c.loop-numbered.yielded c.loop-numbered.numbered-iterator
    c.loop-numbered.yielded_by c.next.result c.next.new.self c.in-Some.numbered c.in-Some.is c.next.ensures.steps in
    let stands = slice_get_read c.args.script.lines.items _ _ c.in-Some.numbered refl turn.0 turn.1 in
    each-get (λ (l : NumberedLine g.row.O-Alloc.Denot). IsFit l.line) c.args.script.lines.items _ c.in-Some.numbered c.requires stands

pub loop-numbered-preserved : goal.loop-numbered-preserved
loop-numbered-preserved g c =
    let so_far = c.loop-numbered.invariant in (
      so_far.0 ++ text_of g.O.Object.sequential c.in-Some.numbered.line c.loop-numbered.self.run.world_view c.trace_line.new.self.run.world_view,
      AreLinesDone-snoc g.O.Object.sequential c.loop-numbered.yielded c.in-Some.numbered c.args.self.now.run
          c.loop-numbered.self.run c.trace_line.new.self.run so_far.0 so_far.1 c.in_ok-trace_line.ensures,
    )

pub returns : goal.returns
returns g c =
    let begun = c.into_iter-numbered-iterator.ensures.into_iter_gives in
    let ended = YieldsList-end (YieldsList-from_vec c.args.script.lines.items begun.0
    (begun.1 ∙ c.args.script.lines.ok.0)) c.loop-numbered.yielded c.loop-numbered.numbered-iterator
    c.loop-numbered.yielded_by c.next.result c.next.new.self c.in-None.is c.next.ensures.steps in
    let all : c.loop-numbered.yielded ≡ c.args.script.lines.items = sym (map-id c.loop-numbered.yielded) ∙ ended.0 in
    let done = c.loop-numbered.invariant in (
      done.0,
      subst (λ (ls : List (NumberedLine g.row.O-Alloc.Denot)). AreLinesDone g.O.Object.sequential ls c.args.self.now.run c.loop-numbered.self.run done.0) all done.1,
    )
