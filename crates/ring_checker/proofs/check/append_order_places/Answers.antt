-- One more call is applied to the object, and its place added.
use Rattle.std.proofs.Common.{◌≡◌, ◌+◌, ◌∷◌, [], ◌++◌, None, length, refl, rules, subst}
use Rattle.std.proofs.lemmas.Option.{slice_get_read}
use Rattle.ring_session.specs.Deduplicated.{IsCallAt}
use Rattle.ring_checker.specs.declared.check.OrderPlace.{OrderPlace}
use Rattle.ring_checker.specs.Checks.{ArePlaces}
use Rattle.ring_checker.proofs.Checks.{content-step, places-push}
use Rattle.ring_checker.proofs.check.append_order_places.Goals as goal

pub loop-call-preserved : goal.loop-call-preserved
loop-call-preserved g c =
    let at : IsCallAt c.args.order.now c.loop-call.call-index c.call-item.result =
    slice_get_read c.args.order.now (length c.args.order.now) c.loop-call.call-index c.call-item.result refl c.loop-call-test.true c.call-item.is in
    let place : OrderPlace = record { issued = None; reply = c.in_ok-reply.reply } in
    let replied : c.in_ok-reply.reply ≡ g.O.Object.sequential.reply c.loop-call.object c.call-item.result.op = search rules in
    let done : c.apply.new.self ≡ g.O.Object.sequential.next c.loop-call.object c.call-item.result.op = search rules in
    let kept : c.loop-call.places.items ++ place ∷ [] ≡ c.push.new.self.items = search rules in
    record {
      content = content-step g.O.Object.sequential c.loop-call.object c.apply.new.self c.args.order.now
          c.loop-call.call-index c.call-item.result at c.loop-call.invariant.content done;
      places = subst (ArePlaces g.O.Object.sequential c.args.order.now [] (c.loop-call.call-index + 1)) kept
          (places-push g.O.Object.sequential c.args.order.now [] c.loop-call.call-index
          c.loop-call.places.items c.loop-call.object c.call-item.result place
          c.loop-call.invariant.places at c.loop-call.invariant.content refl replied);
    }
