use Rattle.std.proofs.Common.{◌≡◌, ◌<◌, Some, slice_get, length, refl, arith}
use Rattle.std.proofs.lemmas.Option.{slice_get_read}
use Rattle.ring_trace_picture.specs.TracePictures.{change_marks}
use Rattle.ring_trace_picture.proofs.Drawn.{drawn_more}
use Rattle.ring_trace_picture.proofs.trace_picture.TracePicture.add_node_view.Goals as goal

pub loop-change-preserved : goal.loop-change-preserved
loop-change-preserved g c =
    let changes = c.args.standing.now in
    let k = c.loop-change.change-index in
    let within : k < length changes = omega (arith, c.loop-change-test.true) in
    let at : slice_get changes k ≡ Some c.change-item.result = slice_get_read changes (length changes) k c.change-item.result refl within c.change-item.is in
    drawn_more (change_marks c.args.node) c.args.self.now.picture c.loop-change.self.picture c.add_change.new.self.picture changes k c.change-item.result at
    c.loop-change.invariant c.in_ok-add_change.ensures.ok
