-- One more ticket: it is removed, or comes after the kept ones.
use Rattle.std.proofs.Common.{◌<◌, length, arith, subst, sym, ◌∙◌}
use Rattle.ring_session.specs.Buckets.{AreCommitted}
use Rattle.ring_session.proofs.BucketPlaces.{left-gone, left-kept}
use Rattle.ring_session.proofs.tickets.remove_committed_some.Goals as goal
use Rattle.ring_session.proofs.tickets.remove_committed_some.Goals.{then-not-is_marked, else-not-is_marked}

pub loop-place-preserved : goal.loop-place-preserved
loop-place-preserved g c =
    let gone = c.committed_among-committed_flags.result.committed_marks in
    let committed = c.args.committed.now in
    let xs = c.args.pending.now.items in
    let ys = c.loop-place.pending.items in
    let so_far = c.loop-place.invariant.filtered in
    let are : AreCommitted gone committed xs = subst (AreCommitted gone committed) c.as_slice.ensures.value c.committed_among-committed_flags.ensures in
    let within : c.loop-place.place < length ys = omega (arith, c.loop-place-test.true, c.len-place-end.ensures, so_far.long) in
    elim c.if-not-is_marked.branch [
      | then-not-is_marked w ↦ rw (w.pending-is, w.kept-is) (record {
        filtered = left-kept gone committed xs ys c.loop-place.kept c.loop-place.place w.swap.new.self.items are within
            (sym c.is_marked.ensures ∙ w.if-not-is_marked.true) w.swap.ensures.by_index so_far;
        capacity = w.swap.ensures.capacity ∙ c.loop-place.invariant.capacity;
      })
      | else-not-is_marked w ↦ rw (w.pending-is, w.kept-is) (record {
        filtered = left-gone gone committed xs ys c.loop-place.kept c.loop-place.place are within
            (sym c.is_marked.ensures ∙ w.if-not-is_marked.false) so_far;
        capacity = c.loop-place.invariant.capacity;
      })
    ]
