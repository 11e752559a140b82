use Rattle.std.proofs.Common.{◌++◌, Some, None, if◌then◌else◌, ap, sym, ◌∙◌}
use Rattle.ring_base.specs.Processors.{has}
use Rattle.ring_core_world.specs.Running.{frames_of, opening_frames}
use Rattle.ring_core_world.proofs.FramePlaces.{none_at, first_at, later_at}
use Rattle.ring_core_spec.specs.State.{OutgoingFrame, frame_for}
use Rattle.ring_core_world.proofs.frame_lookup.formed_ring_frame.Goals as goal

pub returns-then-number-lt1 : goal.returns-then-number-lt1
returns-then-number-lt1 g c = sym (none_at c.args.node (opening_frames (Some c.args.first.now) ++ frames_of c.args.outs.now) c.args.number c.if-number-lt1.true)

pub returns-then-number-lt2 : goal.returns-then-number-lt2
returns-then-number-lt2 g c =
    c.frame_if_for.ensures
    ∙ ap (λ (s : OutgoingFrame g.row.A.Denot). if has s.to c.args.node then Some s.frame else None) c.first.view_is
    ∙ first_at c.args.node c.args.first.now (frames_of c.args.outs.now) c.args.number c.if-number-lt1.false c.if-number-lt2.true

pub returns : goal.returns
returns g c =
    c.frame_at_index.ensures ∙ ap (frame_for c.args.node) (sym (later_at c.args.first.now (frames_of c.args.outs.now) c.args.number c.if-number-lt2.false))
