use Rattle.std.proofs.Common.{◌∙◌, refl, sym}
use Rattle.ring_world.specs.OpenCopies.{frames_of}
use Rattle.ring_world.proofs.PumpOpening.{closes}
use Rattle.ring_world.proofs.open_copies.OpenCopies.close_first_copy.Goals as goal

pub returns-clause-takes : goal.returns-clause-takes
returns-clause-takes g c =
    let p = c.loop-self.self in
    let frames = frames_of g.O.Object.sequential c.args.world.now in
    sym c.loop-self.invariant.0
    ∙ closes p frames (record { reached_frame = p.reached_frame; sender = p.sender; open_receivers = c.without_members-self.result })
    c.in_ok-receiver.receiver c.singleton.result c.in_ok-receiver.ensures.found c.in_ok-receiver.ensures.member
    c.singleton.ensures.value (rw c.without_members-self.ensures.value refl)

pub returns-then-not-advance_to_next_frame-clause-takes : goal.returns-then-not-advance_to_next_frame-clause-takes
returns-then-not-advance_to_next_frame-clause-takes g c =
    let last = c.advance_to_next_frame.ensures.last c.if-not-advance_to_next_frame.true in
    (sym c.loop-self.invariant.0 ∙ last.0, last.1 ∙ c.loop-self.invariant.0)
