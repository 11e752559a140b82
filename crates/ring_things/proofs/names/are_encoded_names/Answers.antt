use Rattle.std.proofs.Common.{◌∙◌, sym, ap, is_some}
use Rattle.ring_base.proofs.Cases.{some_if}
use Rattle.ring_things.proofs.NamesRead.{names_of-next, names_of-none, names_of-end, is_some-option_map}
use Rattle.ring_things.proofs.names.are_encoded_names.Goals as goal

pub returns-in_default : goal.returns-in_default
returns-in_default c =
    let none = names_of-none c.args.count c.loop-i._i c.loop-i.last c.loop-i.rest.now c.loop-i-test.true (sym c.next_name.ensures.value ∙ c.in_default.is) in
    sym (c.loop-i.invariant ∙ ap is_some none)

pub loop-i-preserved : goal.loop-i-preserved
loop-i-preserved c =
    let next = names_of-next c.args.count c.loop-i._i c.loop-i.last c.loop-i.rest.now c.in-Some.name
    c.loop-i-test.true (sym c.next_name.ensures.value ∙ c.in-Some.is) in
    rw c.bytes_after_name-rest.ensures (c.loop-i.invariant ∙ ap is_some next ∙ is_some-option_map _ _)

pub returns : goal.returns
returns c =
    let end = names_of-end c.args.count c.loop-i._i c.loop-i.last c.loop-i.rest.now c.loop-i-test.false in
    c.is_empty.ensures ∙ sym (c.loop-i.invariant ∙ ap is_some end ∙ some_if _ _)
