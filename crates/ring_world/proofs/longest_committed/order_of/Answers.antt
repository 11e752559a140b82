-- One more segment.
use Rattle.std.proofs.Common.{◌++◌, length, take, refl, ap, ◌∙◌, sym, subst}
use Rattle.std.proofs.lemmas.List.{take_all}
use Rattle.std.proofs.lemmas.Option.{slice_get_read}
use Rattle.ring_session.specs.Deduplicated.{deduplicated}
use Rattle.ring_session.specs.Effects.{AreEffectsOf}
use Rattle.ring_world.specs.LongestCommitted.{calls_of}
use Rattle.ring_world.proofs.Segments.{calls_of-more}
use Rattle.ring_world.proofs.longest_committed.order_of.Goals as goal

pub loop-segment-preserved : goal.loop-segment-preserved
loop-segment-preserved g c =
    let xs = c.args.segments.now in
    let i = c.loop-segment.segment-index in
    let x = c.segment-item.result in
    let at = slice_get_read xs (length xs) i x refl c.loop-segment-test.true c.segment-item.is in
    subst (λ l. AreEffectsOf l c.add_all.new.self) (ap (λ l. calls_of (take i xs) ++ l) c.calls.ensures ∙ sym (calls_of-more xs i x at))
    (c.in_ok-add_all.ensures.ok (calls_of (take i xs)) c.loop-segment.invariant)

pub returns-clause-ok : goal.returns-clause-ok
returns-clause-ok g c =
    c.into_calls.ensures ∙ c.loop-segment.invariant.calls_are
    ∙ ap (λ l. deduplicated (calls_of l)) (take_all c.loop-segment.segment-index c.args.segments.now c.loop-segment-test.false)
