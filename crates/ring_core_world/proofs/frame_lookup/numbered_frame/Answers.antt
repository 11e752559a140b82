use Rattle.std.proofs.Common.{ap, sym, ◌∙◌}
use Rattle.ring_core_world.specs.Running.{frames_of}
use Rattle.ring_core_world.proofs.FramePlaces.{none_at, index_at}
use Rattle.ring_core_spec.specs.State.{frame_for}
use Rattle.ring_core_world.proofs.frame_lookup.numbered_frame.Goals as goal

pub returns-then-number-lt1 : goal.returns-then-number-lt1
returns-then-number-lt1 g c = sym (none_at c.args.node (frames_of c.args.outs.now) c.args.number c.if-number-lt1.true)

pub returns : goal.returns
returns g c = c.frame_at_index.ensures ∙ ap (frame_for c.args.node) (sym (index_at (frames_of c.args.outs.now) c.args.number c.if-number-lt1.false))
