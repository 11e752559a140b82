use Rattle.std.proofs.Common.{◌≡◌, ◌<◌, Some, slice_get, length, refl, arith}
use Rattle.std.proofs.lemmas.Option.{slice_get_read}
use Rattle.ring_trace_picture.specs.TracePictures.{outcome_mark}
use Rattle.ring_trace_picture.proofs.Drawn.{marked_more}
use Rattle.ring_trace_picture.proofs.trace_picture.TracePicture.add_outcomes.Goals as goal

pub loop-one-preserved : goal.loop-one-preserved
loop-one-preserved g c =
    let told = c.args.told.now in
    let k = c.loop-one.one-index in
    let within : k < length told = omega (arith, c.loop-one-test.true) in
    let at : slice_get told k ≡ Some c.one-item.result = slice_get_read told (length told) k c.one-item.result refl within c.one-item.is in
    marked_more outcome_mark c.args.self.now.picture c.loop-one.self.picture c.add_outcome.new.self.picture told k c.one-item.result at
    c.loop-one.invariant c.in_ok-add_outcome.ensures.ok
