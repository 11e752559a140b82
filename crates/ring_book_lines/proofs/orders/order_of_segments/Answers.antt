use Rattle.std.proofs.Common.{ap, ◌∙◌, add-one, get_or, take}
use Rattle.std.proofs.lemmas.Option.{slice_get-get_or}
use Rattle.ring_session.specs.Deduplicated.{deduplicated}
use Rattle.ring_book_lines.specs.declared.committed_segments.LogSegment.{LogSegment}
use Rattle.ring_book_lines.specs.Logs.{calls_at}
use Rattle.ring_book_lines.proofs.Logging.{calls_at-take, calls_at-all}
use Rattle.ring_book_lines.proofs.orders.order_of_segments.Goals as goal

pub loop-segment-preserved : goal.loop-segment-preserved
loop-segment-preserved g c =
    let k = c.loop-segment.segment-index in
    let none : LogSegment = record { line = 0; from = 0 } in
    let s = get_or c.args.segments.now k none in
    let at = slice_get-get_or c.args.segments.now k none c.loop-segment-test.true in
    rw (add-one, calls_at-take c.args.lines.now c.args.segments.now k s at)
    (c.in_ok-add_segment.ensures.ok (calls_at c.args.lines.now (take k c.args.segments.now)) c.loop-segment.invariant)

pub returns-clause-ok : goal.returns-clause-ok
returns-clause-ok g c = c.into_calls.ensures ∙ (c.loop-segment.invariant.calls_are
    ∙ ap deduplicated (calls_at-all c.args.lines.now c.args.segments.now c.loop-segment.segment-index
    c.loop-segment-test.false))
