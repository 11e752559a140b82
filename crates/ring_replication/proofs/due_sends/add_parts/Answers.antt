-- They are added one by one.
use Rattle.std.proofs.Common.{◌∙◌}
use Rattle.std.proofs.lemmas.Iterator.Adapters.{YieldsList-from_vec}
use Rattle.std.proofs.lemmas.Iterator.Consumers.{YieldsList-end}
use Rattle.ring_payload.specs.declared.content.Payload.TheVariants.{Part}
use Rattle.ring_replication.proofs.DueSendsInOrder.{due-next, due-all}
use Rattle.ring_replication.proofs.due_sends.add_parts.Goals as goal

pub loop-part-preserved : goal.loop-part-preserved
loop-part-preserved g c =
    due-next (λ part. Part part) c.args.due.now.items c.loop-part.due.items c.push.new.self.items c.loop-part.yielded c.in-Some.part
    c.loop-part.invariant c.in_ok-push.ensures.items

pub returns-clause-ok : goal.returns-clause-ok
returns-clause-ok g c =
    let parts = c.in_ok-part-items.part-items in
    let opening_stage = c.into_iter-part-iterator.ensures.into_iter_gives in
    let ended = YieldsList-end (YieldsList-from_vec parts.items opening_stage.0 (opening_stage.1 ∙ parts.ok.0)) c.loop-part.yielded c.loop-part.part-iterator
    c.loop-part.yielded_by c.next.result c.next.new.self c.in-None.is c.next.ensures.steps in
    due-all (λ part. Part part) c.args.due.now.items c.loop-part.due.items c.loop-part.yielded parts.items _ c.loop-part.invariant ended.0
    c.in_ok-part-items.ensures.ok
