use Rattle.std.proofs.Common.{◌≡◌, length, refl, subst, arith}
use Rattle.std.proofs.lemmas.Option.{slice_get_read}
use Rattle.ring_checker.specs.Checks.{IsIndexOf}
use Rattle.ring_checker.proofs.Indexes.{indexed-none, indexed-more, unnumbered, all_numbered}
use Rattle.ring_checker.proofs.index.index_all_places.Goals as goal

pub loop-place-init : goal.loop-place-init
loop-place-init g c = indexed-none c.args.order.now c.args.index.now c.requires

pub loop-place-preserved : goal.loop-place-preserved
loop-place-preserved g c =
    let order = c.args.order.now in
    let place = c.loop-place.place in
    let call = c.index-order-place.result in
    let at = slice_get_read order (length order) place call refl c.loop-place-test.true c.index-order-place.is in
    let is_next = c.in_ok-is_next.ensures.next.0 c.if-not-is_next.false in
    indexed-more order place call c.loop-place.index c.index_call.new.index c.loop-place.invariant at is_next
    (c.in_ok-is_next.ensures.adds c.if-not-is_next.false)

pub returns-then-not-is_next-clause-numbered : goal.returns-then-not-is_next-clause-numbered
returns-then-not-is_next-clause-numbered g c =
    let order = c.args.order.now in
    let place = c.loop-place.place in
    let call = c.index-order-place.result in
    let at = slice_get_read order (length order) place call refl c.loop-place-test.true c.index-order-place.is in
    unnumbered order place call c.loop-place.index c.loop-place.invariant at
    (λ is_next. absurd (cc (c.in_ok-is_next.ensures.next.1 is_next, c.if-not-is_next.true)))

pub returns-clause-numbered : goal.returns-clause-numbered
returns-clause-numbered g c =
    all_numbered c.args.order.now c.loop-place.place c.loop-place.index c.loop-place.invariant c.loop-place-test.false

pub returns-clause-ok : goal.returns-clause-ok
returns-clause-ok g c = λ _.
    let all : c.loop-place.place ≡ length c.args.order.now = omega (arith, c.loop-place-test.false, c.loop-place.auto.place-end) in
    subst (λ n. IsIndexOf c.args.order.now n c.loop-place.index) all c.loop-place.invariant.is_index
