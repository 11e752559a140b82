use Rattle.ring_checker.proofs.Issues.{reply_item}
use Rattle.ring_checker.proofs.check.note_issue.Goals as goal

pub returns-in-Reply : goal.returns-in-Reply
returns-in-Reply g c = λ past many are.
    reply_item g.O.Object.sequential c.args.order.now past c.args.places.now c.args.item.now _ _ c.in-Reply.is are
