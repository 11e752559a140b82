use Rattle.std.proofs.Common.{◌≡◌, [], take}
use Rattle.ring_object.specs.Operations.{content_after}
use Rattle.ring_session.specs.Deduplicated.{operations}
use Rattle.ring_checker.specs.Checks.{ArePlaces}
use Rattle.ring_checker.proofs.check.append_order_places.Given as goal

abbrev pub invariant-loop-call : goal.invariant-loop-call
invariant-loop-call g l = record {
  content : l.object ≡ content_after g.O.Object.sequential g.O.Object.sequential.initial (take l.call-index (operations l.order));
  places : ArePlaces g.O.Object.sequential l.order [] l.call-index l.places.items;
}
