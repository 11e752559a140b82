use Rattle.std.proofs.Common.{◌≡◌, [], ◌∙◌, refl, ap, sym}
use Rattle.ring_base.proofs.Taking.{elements-taken, fewer}
use Rattle.ring_base.specs.Elements.{elements-nobody}
use Rattle.ring_base.specs.Processors.{elements, nobody}
use Rattle.ring_base.proofs.members.MembersIterator.next.Goals as goal

pub returns-in_err-first-clause-steps : goal.returns-in_err-first-clause-steps
returns-in_err-first-clause-steps c =
    let nothing : c.args.self.now ≡ nobody = sym c.self.view_is ∙ c.in_err-first.ensures.none.0 refl in
    let unvisited : elements c.args.self.now ≡ [] = ap elements nothing ∙ elements-nobody in
    rw c.from_residual.ensures (unvisited, unvisited)

pub returns-clause-steps : goal.returns-clause-steps
returns-clause-steps c =
    rw (← c.self.view_is) (elements-taken c.self.inside.unvisited c.in_ok-first.first c.singleton.result
    c.without_members-self-inside.result c.in_ok-first.ensures.found c.in_ok-first.ensures.member c.singleton.ensures.value
    c.without_members-self-inside.ensures.value)

pub returns-clause-goes : goal.returns-clause-goes
returns-clause-goes c = record {
  on = λ finite. (tt, tt, fewer c.args.self.now c.in_ok-first.first c.without_members-self-inside.result (returns-clause-steps c));
  keeps = tt;
  rests = λ finite. tt;
}
