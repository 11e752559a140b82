-- The index finds the call's place, unless another operation is there.
use Rattle.std.proofs.Common.{length, refl, sym, ◌∙◌, arith}
use Rattle.std.proofs.lemmas.Option.{slice_get_read, slice_get_within}
use Rattle.ring_checker.proofs.Indexes.{place-none, place-other, place-found}
use Rattle.ring_checker.proofs.index.place_by_index.Goals as goal

pub returns-in_default : goal.returns-in_default
returns-in_default g c = place-none c.args.order.now c.args.index.now c.args.call.now c.requires (sym c.in_default.ensures)

pub offset_bounds-order-place : goal.offset_bounds-order-place
offset_bounds-order-place g c =
    let call = c.args.call.now in
    let there = c.requires.found (call.client, call.number) c.in-Some.place (sym c.in-Some.ensures) in
    omega (arith, slice_get_within c.args.order.now c.in-Some.place there.0 there.2)

pub bounds-order-place : goal.bounds-order-place
bounds-order-place g c =
    let call = c.args.call.now in
    let there = c.requires.found (call.client, call.number) c.in-Some.place (sym c.in-Some.ensures) in
    slice_get_within c.args.order.now c.in-Some.place there.0 there.2

pub returns-then-equals_call : goal.returns-then-equals_call
returns-then-equals_call g c =
    let order = c.args.order.now in
    let call = c.args.call.now in
    let place = c.in-Some.place in
    let other = c.index-order-place.result in
    let there = c.requires.found (call.client, call.number) place (sym c.in-Some.ensures) in
    let at = slice_get_read order (length order) place other refl (slice_get_within order place there.0 there.2) c.index-order-place.is in
    place-found order c.args.index.now place call other c.requires at (sym c.equals_call.ensures.value ∙ c.if-equals_call.true)

pub returns-else-equals_call : goal.returns-else-equals_call
returns-else-equals_call g c =
    let order = c.args.order.now in
    let call = c.args.call.now in
    let place = c.in-Some.place in
    let other = c.index-order-place.result in
    let is = sym c.in-Some.ensures in
    let there = c.requires.found (call.client, call.number) place is in
    let at = slice_get_read order (length order) place other refl (slice_get_within order place there.0 there.2) c.index-order-place.is in
    place-other order c.args.index.now place call other c.requires is at (sym c.equals_call.ensures.value ∙ c.if-equals_call.false)
