use Rattle.std.proofs.Common.{rules}
use Rattle.ring_base.proofs.Rows.{pushed}
use Rattle.ring_host.specs.Items.{HasRoomFor}
use Rattle.ring_host.proofs.construction.inboxes.Goals as goal

pub loop-preserved : goal.loop-preserved
loop-preserved g c = (
  search rules,
  pushed (HasRoomFor c.args.size) c.loop.inboxes.items c.push.new.self.items c.in_ok-new.field-0 c.loop.invariant.1 c.in_ok-new.ensures.size
      c.in_ok-push.ensures.items,
)
