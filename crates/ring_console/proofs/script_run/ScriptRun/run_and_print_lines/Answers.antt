use Rattle.std.proofs.Common.{◌≡◌, Result, Err, List, ◌++◌, ◌∷◌, [], ◌∙◌, refl, sym, subst}
use Rattle.std.specs.Io.KnownBytes.{Appends}
use Rattle.std.proofs.lemmas.List.{map-id}
use Rattle.std.proofs.lemmas.Iterator.Adapters.{YieldsList-from_vec}
use Rattle.std.proofs.lemmas.Iterator.Consumers.{YieldsList-end, YieldsList-so_far, YieldsList-turn}
use Rattle.std.proofs.lemmas.Option.{slice_get_read}
use Rattle.std.proofs.lemmas.Result.{err_from_is_err_and}
use Rattle.ring_base.proofs.Each.{each-get}
use Rattle.ring_script.specs.declared.scripts.NumberedLine.{NumberedLine}
use Rattle.ring_script.specs.Fits.{IsFit}
use Rattle.ring_console.specs.Running.{HasPrinted, AreLinesDone, IsLineInterrupted, AreLinesInterrupted, text_of}
use Rattle.ring_console.proofs.PrintedLines.{printed_as, printed_then, AreLinesDone-snoc, broken_run, unless_map, unless_both}
use Rattle.ring_console.proofs.script_run.ScriptRun.run_and_print_lines.Goals as goal

pub run_and_print_line-requires : goal.run_and_print_line-requires
run_and_print_line-requires g c =
    let begun = c.into_iter-numbered-iterator.ensures.into_iter_gives in
    let turn = YieldsList-turn (YieldsList-from_vec c.args.script.lines.items begun.0
    (begun.1 ∙ c.args.script.lines.ok.0)) c.loop-numbered.yielded c.loop-numbered.numbered-iterator
    c.loop-numbered.yielded_by c.next.result c.next.new.self c.in-Some.numbered c.in-Some.is c.next.ensures.steps in
    let stands = slice_get_read c.args.script.lines.items _ _ c.in-Some.numbered refl turn.0 turn.1 in
    each-get (λ (l : NumberedLine g.row.O-Alloc.Denot). IsFit l.line) c.args.script.lines.items _ c.in-Some.numbered c.requires stands

pub loop-numbered-preserved : goal.loop-numbered-preserved
loop-numbered-preserved g c =
    printed_then (g.W.Write.contents c.args.out.now) (g.W.Write.contents c.loop-numbered.out)
    (g.W.Write.contents c.run_and_print_line.new.out)
    (text_of g.O.Object.sequential c.in-Some.numbered.line c.loop-numbered.self.world_view c.run_and_print_line.new.self.world_view)
    (λ text. AreLinesDone g.O.Object.sequential c.loop-numbered.yielded c.args.self.now c.loop-numbered.self text)
    (λ text. AreLinesDone g.O.Object.sequential (c.loop-numbered.yielded ++ c.in-Some.numbered ∷ []) c.args.self.now c.run_and_print_line.new.self text)
    (λ a runs. AreLinesDone-snoc g.O.Object.sequential c.loop-numbered.yielded c.in-Some.numbered c.args.self.now
    c.loop-numbered.self c.run_and_print_line.new.self a runs c.in_ok-run_and_print_line.ensures.ends)
    c.loop-numbered.invariant c.in_ok-run_and_print_line.ensures.prints

pub returns-clause-ends : goal.returns-clause-ends
returns-clause-ends g c =
    let begun = c.into_iter-numbered-iterator.ensures.into_iter_gives in
    let ended = YieldsList-end (YieldsList-from_vec c.args.script.lines.items begun.0
    (begun.1 ∙ c.args.script.lines.ok.0)) c.loop-numbered.yielded c.loop-numbered.numbered-iterator
    c.loop-numbered.yielded_by c.next.result c.next.new.self c.in-None.is c.next.ensures.steps in
    let all : c.loop-numbered.yielded ≡ c.args.script.lines.items = sym (map-id c.loop-numbered.yielded) ∙ ended.0 in
    printed_as _ _ _ _ (λ text runs. subst
    (λ (ls : List (NumberedLine g.row.O-Alloc.Denot)). AreLinesDone g.O.Object.sequential ls c.args.self.now
    c.loop-numbered.self text) all runs) c.loop-numbered.invariant

pub returns-in_err-run_and_print_line-clause-ends : goal.returns-in_err-run_and_print_line-clause-ends
returns-in_err-run_and_print_line-clause-ends g c =
    let items = c.args.script.lines.items in
    let line = c.in-Some.numbered in
    let begun = c.into_iter-numbered-iterator.ensures.into_iter_gives in
    let road = YieldsList-from_vec items begun.0 (begun.1 ∙ c.args.script.lines.ok.0) in
    let turn = YieldsList-turn road c.loop-numbered.yielded c.loop-numbered.numbered-iterator
    c.loop-numbered.yielded_by c.next.result c.next.new.self line c.in-Some.is c.next.ensures.steps in
    let first = sym (map-id c.loop-numbered.yielded)
    ∙ YieldsList-so_far road c.loop-numbered.yielded c.loop-numbered.numbered-iterator c.loop-numbered.yielded_by in
    let text = text_of g.O.Object.sequential line.line c.loop-numbered.self.world_view c.run_and_print_line.new.self.world_view in
    let failed : Result (Unit {0}) _ = Err c.in_err-run_and_print_line.field-0.0 in
    let p = err_from_is_err_and c.from_residual.result c.from_residual.ensures.1 in
    let told = unless_map failed (IsLineInterrupted g.O.Object.sequential line.line c.loop-numbered.self c.run_and_print_line.new.self
    × Appends (g.W.Write.contents c.loop-numbered.out) (g.W.Write.contents c.run_and_print_line.new.out) text)
    (HasPrinted (g.W.Write.contents c.args.out.now) (g.W.Write.contents c.run_and_print_line.new.out)
    (λ t. AreLinesInterrupted g.O.Object.sequential items c.args.self.now c.run_and_print_line.new.self t))
    (λ h. printed_then (g.W.Write.contents c.args.out.now) (g.W.Write.contents c.loop-numbered.out) (g.W.Write.contents c.run_and_print_line.new.out) text
    (λ t. AreLinesDone g.O.Object.sequential c.loop-numbered.yielded c.args.self.now c.loop-numbered.self t)
    (λ t. AreLinesInterrupted g.O.Object.sequential items c.args.self.now c.run_and_print_line.new.self t)
    (λ a runs. broken_run g.O.Object.sequential items c.loop-numbered.yielded line c.args.self.now
    c.loop-numbered.self c.run_and_print_line.new.self a first turn.0 turn.1 runs h.0)
    c.loop-numbered.invariant h.1)
    (unless_both failed _ _ c.in_err-run_and_print_line.ensures.ends c.in_err-run_and_print_line.ensures.prints) in
    rw (p.1, p.2) told
