use Rattle.std.proofs.Common.{◌≡◌, List, None, Some, slice_get, subst}
use Rattle.ring_base.proofs.ListPlaces.{item_copied}
use Rattle.ring_script.specs.declared.scripts.NumberedLine.{NumberedLine}
use Rattle.ring_sweep.proofs.Inserted.{at_line, at_end}
use Rattle.ring_sweep.proofs.variant_script.print_with_injection.Goals as goal

pub returns-in-Some-clause-printed : goal.returns-in-Some-clause-printed
returns-in-Some-clause-printed g c =
    let place = c.args.script_position.lines in
    let found : Some c.in-Some.next.now ≡ slice_get c.args.script.now.lines.items place =
    subst (λ (lines : List (NumberedLine _)). Some c.in-Some.next.now ≡ slice_get lines place) c.deref.ensures.value
    (item_copied c.deref.result.now place (Some c.in-Some.next) c.in-Some.ensures.lookup) in
    at_line c.print_with_line.result _ _ c.args.text.now c.count-count.result c.args.script.now.nodes.count c.args.injection c.before_event.result
    _ c.in-Some.next.now c.args.script_position.turns found
    c.before_event.ensures c.count-count.ensures.value c.print_with_line.ensures.printed

pub returns-in-None-clause-printed : goal.returns-in-None-clause-printed
returns-in-None-clause-printed g c =
    let place = c.args.script_position.lines in
    let none : None ≡ slice_get c.args.script.now.lines.items place =
    subst (λ (lines : List (NumberedLine _)). None ≡ slice_get lines place) c.deref.ensures.value
    (item_copied c.deref.result.now place None c.in-None.ensures.lookup) in
    at_end c.print_with_end.result _ _ c.args.text.now c.count-count.result c.args.script.now.nodes.count c.args.injection c.at_end.result
    _ c.args.script_position.turns none
    c.at_end.ensures c.count-count.ensures.value c.print_with_end.ensures.printed
