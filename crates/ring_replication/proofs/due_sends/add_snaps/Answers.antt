-- They are added one by one.
use Rattle.std.proofs.Common.{◌∙◌}
use Rattle.std.proofs.lemmas.Iterator.Adapters.{YieldsList-from_vec}
use Rattle.std.proofs.lemmas.Iterator.Consumers.{YieldsList-end}
use Rattle.ring_payload.specs.declared.content.Payload.TheVariants.{Snap}
use Rattle.ring_replication.proofs.DueSendsInOrder.{due-next, due-all}
use Rattle.ring_replication.proofs.due_sends.add_snaps.Goals as goal

pub loop-snap-preserved : goal.loop-snap-preserved
loop-snap-preserved g c =
    due-next (λ snap. Snap snap) c.args.due.now.items c.loop-snap.due.items c.push.new.self.items c.loop-snap.yielded c.in-Some.snap
    c.loop-snap.invariant c.in_ok-push.ensures.items

pub returns-clause-ok : goal.returns-clause-ok
returns-clause-ok g c =
    let pieces_of = c.in_ok-snap-items.snap-items in
    let opening_stage = c.into_iter-snap-iterator.ensures.into_iter_gives in
    let ended = YieldsList-end (YieldsList-from_vec pieces_of.items opening_stage.0 (opening_stage.1 ∙ pieces_of.ok.0)) c.loop-snap.yielded c.loop-snap.snap-iterator
    c.loop-snap.yielded_by c.next.result c.next.new.self c.in-None.is c.next.ensures.steps in
    due-all (λ snap. Snap snap) c.args.due.now.items c.loop-snap.due.items c.loop-snap.yielded pieces_of.items _ c.loop-snap.invariant ended.0
    c.in_ok-snap-items.ensures.ok
