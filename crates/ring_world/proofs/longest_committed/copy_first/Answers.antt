-- One more segment.
use Rattle.std.proofs.Common.{◌++◌, ◌-◌, length, take, refl, ap, ◌∙◌, sym, arith, []}
use Rattle.std.proofs.lemmas.List.{take_all}
use Rattle.std.proofs.lemmas.Option.{slice_get_read}
use Rattle.ring_world.specs.LongestCommitted.{calls_of}
use Rattle.ring_world.proofs.Segments.{calls_of-more, take-both}
use Rattle.ring_world.proofs.longest_committed.copy_first.Goals as goal

pub loop-segment-init : goal.loop-segment-init
loop-segment-init g c = c.in_ok-copies.ensures.items ∙ sym (take_all c.args.many [] (omega arith))

pub loop-segment-preserved : goal.loop-segment-preserved
loop-segment-preserved g c =
    let xs = c.args.segments.now in
    let i = c.loop-segment.segment-index in
    let x = c.segment-item.result in
    let many = c.args.many in
    let at = slice_get_read xs (length xs) i x refl c.loop-segment-test.true c.segment-item.is in
    c.in_ok-copy_until_len.ensures.ok ∙ ap (λ l. c.loop-segment.copies.items ++ take (many - length c.loop-segment.copies.items) l) c.calls.ensures
    ∙ ap (λ l. l ++ take (many - length l) x) c.loop-segment.invariant
    ∙ sym (ap (take many) (calls_of-more xs i x at) ∙ take-both many (calls_of (take i xs)) x)

pub returns-clause-ok : goal.returns-clause-ok
returns-clause-ok g c =
    c.loop-segment.invariant ∙ ap (λ l. take c.args.many (calls_of l)) (take_all c.loop-segment.segment-index c.args.segments.now c.loop-segment-test.false)
