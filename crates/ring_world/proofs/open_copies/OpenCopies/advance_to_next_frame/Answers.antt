use Rattle.std.proofs.Common.{◌∙◌, refl, sym}
use Rattle.ring_world.specs.OpenCopies.{frames_of}
use Rattle.ring_world.proofs.PumpOpening.{none_past, no_next, went_on, ended}
use Rattle.ring_world.proofs.open_copies.OpenCopies.advance_to_next_frame.Goals as goal

pub returns-in_default-clause-last : goal.returns-in_default-clause-last
returns-in_default-clause-last g c last = (
  none_past c.args.self.now (frames_of g.O.Object.sequential c.args.world.now) c.requires.none
      (no_next c.checked_add.result c.args.self.now.reached_frame c.checked_add.ensures c.in_default.is),
  refl,
)

pub returns-in-Some-frame-clause-same : goal.returns-in-Some-frame-clause-same
returns-in-Some-frame-clause-same g c =
    (went_on c.args.self.now (frames_of g.O.Object.sequential c.args.world.now)
    c.in-Some.number c.in-Some-frame.sent.0 c.in-Some-frame.sent.1 c.requires.none c.in-Some.ensures.1
    c.in-Some.ensures.0 (sym c.in-Some-frame.is ∙ c.frame.ensures)).0

pub returns-in-Some-frame-clause-reached : goal.returns-in-Some-frame-clause-reached
returns-in-Some-frame-clause-reached g c =
    (went_on c.args.self.now (frames_of g.O.Object.sequential c.args.world.now)
    c.in-Some.number c.in-Some-frame.sent.0 c.in-Some-frame.sent.1 c.requires.none c.in-Some.ensures.1
    c.in-Some.ensures.0 (sym c.in-Some-frame.is ∙ c.frame.ensures)).1

pub returns-in-None-clause-last : goal.returns-in-None-clause-last
returns-in-None-clause-last g c last = (
  ended c.args.self.now (frames_of g.O.Object.sequential c.args.world.now) c.in-Some.number c.requires.none
      c.in-Some.ensures.1 (sym c.in-None.is ∙ c.frame.ensures),
  refl,
)
