use Rattle.std.specs.Prelude.{◌≡◌, take, fold, flat_map}
use Rattle.ring_trace_picture.specs.PictureModels.{mark_added}
use Rattle.ring_trace_picture.specs.TracePictures.{change_marks}
use Rattle.ring_trace_picture.proofs.trace_picture.TracePicture.add_node_view.Given as goal

-- The marks of the changes so far are in the picture.
abbrev pub invariant-loop-change : goal.invariant-loop-change
invariant-loop-change g l = l.self.picture ≡ fold mark_added l.initial.self.picture (flat_map (change_marks l.node) (take l.change-index l.standing))
