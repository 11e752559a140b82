use Rattle.std.proofs.Common.{refl}
use Rattle.ring_base.proofs.Results.{value_at_err}
use Rattle.ring_console.proofs.ListingLemmas.{so_far_none, so_far_more, so_far_whole, so_far_cut}
use Rattle.ring_console.proofs.listing.list_with_reader.Goals as goal

pub loop-init : goal.loop-init
loop-init g c =
    let fresh = c.requires.open in
    (so_far_none c.args.frame_reader.now _ _ (rw (c.requires.empty, fresh.1) refl) fresh.0 fresh.2, c.requires.begun)

pub returns-in_err-next_frame-clause-cut : goal.returns-in_err-next_frame-clause-cut
returns-in_err-next_frame-clause-cut g c =
    let failure = c.in_err-next_frame.field-0.0 in
    value_at_err c.from_residual.result failure _ c.from_residual.ensures.1
    (so_far_cut c.loop.frame_reader _ _ _ _ _ c.next_frame.new.self.state failure c.loop.invariant.0
    c.in_err-next_frame.ensures.stopped)

pub returns-in_default-clause-frame_lines : goal.returns-in_default-clause-frame_lines
returns-in_default-clause-frame_lines g c =
    let next = rw c.in_default.is at c.in_ok-next_frame.ensures.next in
    so_far_whole c.loop.frame_reader c.next_frame.new.self _ _ _ _ _ c.loop.invariant.0 next

pub loop-preserved : goal.loop-preserved
loop-preserved g c =
    let next = rw c.in-Some.is at c.in_ok-next_frame.ensures.next in (
      so_far_more c.loop.frame_reader c.next_frame.new.self _ _ _ _ _ _ c.in-Some.frame c.loop.invariant.0 next
          c.in_ok-print_frame.ensures.line c.in_ok-next_frame.ensures.ended,
      c.print_frame.ensures.begun,
    )
