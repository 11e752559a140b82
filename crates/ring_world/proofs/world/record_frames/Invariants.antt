-- The frames so far are stored, and there is room for the others.
use Rattle.std.proofs.Common.{◌≡◌, ◌-◌, ◌++◌, length, take}
use Rattle.ring_node_spec.specs.Worlds.{carried_frames}
use Rattle.ring_world.specs.StoredFramesView.{HasRoom}
use Rattle.ring_world.proofs.world.record_frames.Given as goal

abbrev pub invariant-loop-sent : goal.invariant-loop-sent
invariant-loop-sent g l = (l.frames.frames ≡ l.fn.frames.frames ++ carried_frames l.from (take l.sent-index l.sends))
    × HasRoom (length l.sends - l.sent-index) l.frames
