-- At each step the lesser first number is the next of both lists.
use Rattle.std.proofs.Common.{◌≡◌, ◌<◌, ◌≤◌, length, Some, None, sym, ap, ◌∙◌, arith}
use Rattle.ring_token.specs.Requesting.{least_first}
use Rattle.ring_base.proofs.Cases.{none_from}
use Rattle.ring_token.proofs.Merging.{begun, taken, whole, all_taken, none_left}
use Rattle.ring_token.proofs.requests.requests_after.Goals as goal

pub loop-requests_left-init : goal.loop-requests_left-init
loop-requests_left-init c = rw (c.new-smallest.ensures, c.as_slice-requests_left.ensures.value, c.as_slice-lacking.ensures.value)
    (begun c.args.remaining_requests.now c.args.missing.now c.requires)

pub returns-in_default : goal.returns-in_default
returns-in_default c = λ all m.
    let none : least_first c.loop-requests_left.requests_left.now c.loop-requests_left.lacking.now ≡ None = sym c.least_first.ensures
    ∙ none_from c.least_first.result c.in_default.not-Some in
    whole c.loop-requests_left.smallest c.args.remaining_requests.now c.args.missing.now all
    (none_left c.loop-requests_left.smallest c.loop-requests_left.requests_left.now c.loop-requests_left.lacking.now _ none c.loop-requests_left.invariant) m

pub loop-requests_left-preserved : goal.loop-requests_left-preserved
loop-requests_left-preserved c =
    let few : length c.as_slice.result.now ≡ length c.loop-requests_left.smallest = ap length c.as_slice.ensures.value in
    let short : length c.loop-requests_left.smallest < 32 = omega arith in
    let some : least_first c.loop-requests_left.requests_left.now c.loop-requests_left.lacking.now ≡ Some c.in-Some.number = sym c.least_first.ensures ∙ c.in-Some.is in
    rw (c.push.ensures, c.without_first_if-requests_left.ensures, c.without_first_if-lacking.ensures)
    (taken c.loop-requests_left.smallest c.loop-requests_left.requests_left.now c.loop-requests_left.lacking.now _ c.in-Some.number short some
    c.loop-requests_left.invariant)

pub returns : goal.returns
returns c = λ all m.
    let few : length c.as_slice.result.now ≡ length c.loop-requests_left.smallest = ap length c.as_slice.ensures.value in
    let full : 32 ≤ length c.loop-requests_left.smallest = omega arith in
    whole c.loop-requests_left.smallest c.args.remaining_requests.now c.args.missing.now all
    (all_taken c.loop-requests_left.smallest c.loop-requests_left.requests_left.now c.loop-requests_left.lacking.now _ full c.loop-requests_left.invariant) m
