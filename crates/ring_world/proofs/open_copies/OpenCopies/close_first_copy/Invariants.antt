use Rattle.std.proofs.Common.{◌≡◌, ◌-◌, length}
use Rattle.ring_world.specs.OpenCopies.{frames_of, within_reach, open_copies_from, IsReached}
use Rattle.ring_world.proofs.open_copies.OpenCopies.close_first_copy.Given as goal

-- the open copies stay
abbrev pub invariant-loop-self : goal.invariant-loop-self
invariant-loop-self g l =
    (open_copies_from l.self (frames_of g.O.Object.sequential l.world) ≡ open_copies_from l.initial.self (frames_of g.O.Object.sequential l.world))
    × IsReached l.self (frames_of g.O.Object.sequential l.world)

abbrev pub decreases-loop-self : goal.decreases-loop-self
decreases-loop-self g l = length (within_reach (frames_of g.O.Object.sequential l.world)) - l.self.reached_frame
