-- The open copies are those of the same frames.
use Rattle.std.proofs.Common.{◌≡◌, ap, subst, sym, ◌∙◌}
use Rattle.ring_world.specs.OpenCopies.{frames_of, open_copies_from, IsReached}
use Rattle.ring_world.specs.Pumping.{PumpView}
use Rattle.ring_world.specs.WorldView.{WorldView}
use Rattle.ring_world.proofs.pump.Pump.copy.Goals as goal

pub invariant_of-result : goal.invariant_of-result
invariant_of-result g c =
    let k = c.self.inside in
    subst (λ (p : WorldView g.row.O-Alloc.Denot). IsReached k.open_copies (frames_of g.O.Object.sequential p)) (sym c.in_ok-world.ensures.ok) c.self.invariant

pub returns-clause-ok : goal.returns-clause-ok
returns-clause-ok g c =
    let k = c.self.inside in
    let view : WorldView g.row.O-Alloc.Denot → PumpView g.row.O-Alloc.Denot = λ p. record {
      world_view = p;
      open_copies = open_copies_from k.open_copies (frames_of g.O.Object.sequential p);
    } in
    ap view c.in_ok-world.ensures.ok ∙ c.self.view_is
