-- At each return: the order doesn't have the call, or it was issued before, or this is its first issue.
use Rattle.std.proofs.Common.{◌≡◌, ◌<◌, get_or, is_some, length, ap, sym, ◌∙◌, arith}
use Rattle.std.proofs.lemmas.Option.{slice_get_within, slice_get-get_or, get_or_from_slice_get}
use Rattle.ring_base.proofs.Cases.{some_of, none_of}
use Rattle.ring_checker.specs.declared.check.OrderPlace.{OrderPlace}
use Rattle.ring_checker.proofs.Places.{place_in-stands}
use Rattle.ring_checker.proofs.Issues.{strange_item, issued_again, issued_first}
use Rattle.ring_checker.proofs.check.note_first_issue.Goals as goal

pub returns-in_default : goal.returns-in_default
returns-in_default g c = λ past many are.
    strange_item g.O.Object.sequential c.args.order.now past c.args.places.now c.args.call.now c.in_default.ensures are

pub returns-then-is_some : goal.returns-then-is_some
returns-then-is_some g c = λ past many are.
    let order = c.args.order.now in
    let places = c.args.places.now in
    let at = c.in-Some.at in
    let place = get_or places at c.index-places-at.result in
    let stands = place_in-stands order c.args.call.now at (sym c.in-Some.ensures) in
    let within : at < length places = omega (arith, slice_get_within order at c.args.call.now stands, c.requires.many) in
    let here = slice_get-get_or places at c.index-places-at.result within in
    let seen = some_of place.issued (sym c.is_some.ensures ∙ c.if-is_some.true) in
    issued_again g.O.Object.sequential order c.args.index.now past places c.args.call.now at seen.0 place
    c.requires.index c.in-Some.ensures here seen.1 are

pub returns : goal.returns
returns g c = λ past many are.
    let order = c.args.order.now in
    let places = c.args.places.now in
    let at = c.in-Some.at in
    let place = get_or places at c.index-places-at-2.result in
    let stands = place_in-stands order c.args.call.now at (sym c.in-Some.ensures) in
    let within : at < length places = omega (arith, slice_get_within order at c.args.call.now stands, c.requires.many) in
    let here = slice_get-get_or places at c.index-places-at-2.result within in
    let same : place ≡ get_or places at c.index-places-at.result = sym (get_or_from_slice_get places at place c.index-places-at.result here) in
    let unseen = none_of place.issued (ap (λ (w : OrderPlace). is_some w.issued) same ∙ sym c.is_some.ensures ∙ c.if-is_some.false) in
    let noted = issued_first g.O.Object.sequential order c.args.index.now past places c.args.call.now at place
    c.requires.index c.in-Some.ensures here unseen are in
    rw many at noted
