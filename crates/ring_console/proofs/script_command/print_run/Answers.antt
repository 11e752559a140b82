use Rattle.std.proofs.Common.{rules, inr, ◌∙◌}
use Rattle.ring_failure.proofs.WriterSlotLemmas.{given_back, where_known}
use Rattle.ring_console.proofs.PrintedLines.{at_true, run_told, cut_before}
use Rattle.ring_console.proofs.script_command.print_run.Goals as goal

pub returns-in-Some-clause-printed : goal.returns-in-Some-clause-printed
returns-in-Some-clause-printed g c = λ zero_is.
    let told = at_true c.print_script-done.result _ c.print_script-done.ensures.ok (c.verdict_status-status.ensures.ok zero_is) in
    let appended = where_known _ _ _ (λ xs known.
    let back = given_back g.O.Write.contents _ c.into_parts-writer.result.0 _ c.fill_slot.new.buffer c.print_script-done.new.out
    c.verdict_status-status.new.out told.text xs known c.fill_slot.ensures.slot (c.fill_slot.ensures.bytes ∙ c.in-Ok.ensures.empty) told.appended
    c.verdict_status-status.ensures.kept (c.verdict_status-status.ensures.flushed zero_is) c.into_parts-writer.ensures.inner c.in-Some.is in
    let name = back.0 in
    let bytes = back.1 in
    search rules) in
    record { text = told.text; appended = appended; holds = told.holds }

pub returns-in-Some-clause-cut : goal.returns-in-Some-clause-cut
returns-in-Some-clause-cut g c = λ one_is.
    let ended = c.verdict_status-status.ensures in
    run_told c.print_script-done.result _ _ _ _ _ _ _ ended.output ended.well ended.stands c.print_script-done.ensures.cut
    (λ text emptied written. where_known _ _ _ (λ xs known.
    let back = given_back g.O.Write.contents _ c.into_parts-writer.result.0 _ c.fill_slot.new.buffer c.print_script-done.new.out
    c.verdict_status-status.new.out text xs known c.fill_slot.ensures.slot (c.fill_slot.ensures.bytes ∙ c.in-Ok.ensures.empty) written
    c.verdict_status-status.ensures.kept emptied c.into_parts-writer.ensures.inner c.in-Some.is in
    let name = back.0 in
    let bytes = back.1 in
    search rules))

pub returns-in_default-clause-printed : goal.returns-in_default-clause-printed
returns-in_default-clause-printed g c = λ zero_is.
    let told = at_true c.print_script-done.result _ c.print_script-done.ensures.ok (c.verdict_status-status.ensures.ok zero_is) in
    let appended = where_known _ _ _ (λ xs known.
    absurd (given_back g.O.Write.contents _ c.into_parts-writer.result.0 _ c.fill_slot.new.buffer c.print_script-done.new.out
    c.verdict_status-status.new.out told.text xs known c.fill_slot.ensures.slot (c.fill_slot.ensures.bytes ∙ c.in-Ok.ensures.empty) told.appended
    c.verdict_status-status.ensures.kept (c.verdict_status-status.ensures.flushed zero_is) c.into_parts-writer.ensures.inner c.in_default.is)) in
    record { text = told.text; appended = appended; holds = told.holds }

pub returns-in_default-clause-cut : goal.returns-in_default-clause-cut
returns-in_default-clause-cut g c = λ one_is.
    let ended = c.verdict_status-status.ensures in
    run_told c.print_script-done.result _ _ _ _ _ _ _ ended.output ended.well ended.stands c.print_script-done.ensures.cut
    (λ text emptied written. where_known _ _ _ (λ xs known.
    absurd (given_back g.O.Write.contents _ c.into_parts-writer.result.0 _ c.fill_slot.new.buffer c.print_script-done.new.out
    c.verdict_status-status.new.out text xs known c.fill_slot.ensures.slot (c.fill_slot.ensures.bytes ∙ c.in-Ok.ensures.empty) written
    c.verdict_status-status.ensures.kept emptied c.into_parts-writer.ensures.inner c.in_default.is)))

pub returns-in-Err-clause-cut : goal.returns-in-Err-clause-cut
returns-in-Err-clause-cut g c = λ one_is. inr (cut_before _ _ _ _ _)
