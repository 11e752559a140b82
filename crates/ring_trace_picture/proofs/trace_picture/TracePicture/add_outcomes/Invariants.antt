use Rattle.std.specs.Prelude.{◌≡◌, take, fold, map}
use Rattle.ring_trace_picture.specs.PictureModels.{mark_added}
use Rattle.ring_trace_picture.specs.TracePictures.{outcome_mark}
use Rattle.ring_trace_picture.proofs.trace_picture.TracePicture.add_outcomes.Given as goal

-- The marks of the reports so far are in the picture.
abbrev pub invariant-loop-one : goal.invariant-loop-one
invariant-loop-one g l = l.self.picture ≡ fold mark_added l.initial.self.picture (map outcome_mark (take l.one-index l.told))
