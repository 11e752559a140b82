-- If no call was committed each ticket is kept; without pending tickets none is removed.
use Rattle.std.proofs.Common.{◌∙◌, length, sym, vec_len, arith}
use Rattle.std.proofs.lemmas.Bool.{eqb-true}
use Rattle.ring_session.proofs.BucketPlaces.{unanswered_by-empty, unanswered_by-nobody}
use Rattle.ring_session.proofs.tickets.remove_committed.Goals as goal
use Rattle.ring_session.proofs.tickets.remove_committed.Goals.{then-is_empty-via-then-is_empty, then-is_empty-via-else-is_empty+then-is_empty-2}

pub returns-then-is_empty-clause-items : goal.returns-then-is_empty-clause-items
returns-then-is_empty-clause-items g c =
    let committed = c.args.committed.now in
    let pending = c.args.pending.now.items in
    elim c.then-is_empty.branch [
      | then-is_empty-via-then-is_empty w ↦ unanswered_by-empty committed pending (eqb-true (length committed) 0 (sym c.is_empty.ensures ∙ w.if-is_empty.true))
      | then-is_empty-via-else-is_empty+then-is_empty-2 w ↦
          unanswered_by-nobody committed pending
          (omega (arith, eqb-true (vec_len c.args.pending.now) 0 (sym w.is_empty-else-is_empty.ensures ∙ w.if-is_empty-2.true), c.args.pending.now.ok.0))
    ]
