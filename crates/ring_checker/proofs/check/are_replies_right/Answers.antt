-- One more item is right, or it isn't, by the places whose calls were issued before it.
use Rattle.std.proofs.Common.{length, take, refl}
use Rattle.std.proofs.lemmas.Option.{slice_get_read}
use Rattle.ring_checker.specs.Checks.{IsItemRightAt}
use Rattle.ring_checker.proofs.Indexes.{each-more}
use Rattle.ring_checker.proofs.IssuedFronts.{all_issued-later, right-not, right-all}
use Rattle.ring_checker.proofs.check.are_replies_right.Goals as goal

pub returns-then-not-is_item_right : goal.returns-then-not-is_item_right
returns-then-not-is_item_right g c =
    let history = c.args.history.now in
    let item = c.index-history-k.result in
    let at = slice_get_read history (length history) c.loop-k.k item refl c.loop-k-test.true c.index-history-k.is in
    right-not c.args.order.now c.args.places.now history c.loop-k.k c.issued_prefix_len-front.result item at c.issued_prefix_len-front.ensures
    (λ right. absurd (cc (c.is_item_right.ensures.1 right, c.if-not-is_item_right.true)))

pub loop-k-preserved : goal.loop-k-preserved
loop-k-preserved g c =
    let history = c.args.history.now in
    let places = c.args.places.now in
    let item = c.index-history-k.result in
    let at = slice_get_read history (length history) c.loop-k.k item refl c.loop-k-test.true c.index-history-k.is in
    let front = c.issued_prefix_len-front.result in
    record {
      right = each-more (IsItemRightAt c.args.order.now places) history c.loop-k.k item c.loop-k.invariant.right at
          (front, c.issued_prefix_len-front.ensures.before, c.is_item_right.ensures.0 c.if-not-is_item_right.false);
      within = c.issued_prefix_len-front.ensures.within;
      issued = all_issued-later (take front places) c.loop-k.k c.issued_prefix_len-front.ensures.before;
    }

pub returns : goal.returns
returns g c =
    right-all c.args.order.now c.args.places.now c.args.history.now c.loop-k.k c.loop-k.invariant.right c.loop-k-test.false
