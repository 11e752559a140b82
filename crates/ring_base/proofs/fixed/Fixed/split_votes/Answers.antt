use Rattle.std.proofs.Common.{◌≡◌, ◌+◌, ◌≤◌, true, false, not, slice_index, refl, arith, rules, sym, ◌∙◌}
use Rattle.ring_base.specs.Group.{votes_of}
use Rattle.ring_base.specs.Processors.{has}
use Rattle.ring_base.proofs.Votes.{weight_last, weight_kept, votes_at, votes_few, votes_inside, votes_together}
use Rattle.ring_base.proofs.fixed.Fixed.split_votes.Goals as goal
use Rattle.ring_base.proofs.fixed.Fixed.split_votes.Goals.{then-contains, else-contains}

pub loop-i-preserved : goal.loop-i-preserved
loop-i-preserved c =
    let i = c.loop-i.i in
    let next : i + 1 ≡ 1 + i = omega arith in
    let here = votes_at c.self.inside.count c.self.inside.votes c.args.self i c.self.invariant c.self.view_is in
    let few : slice_index c.self.inside.votes i ≤ 255 = search rules in
    elim c.if-contains.branch [
      | then-contains w ↦
          let holds : has c.args.set (1 + i) ≡ true = rw (← next, ← c.new.ensures) (sym c.contains.ensures.value ∙ w.if-contains.true) in
          record {
            members = omega (
              arith,
              w.inside-is,
              w.from-inside.ensures,
              here,
              c.loop-i.invariant.members,
              weight_last (votes_of c.args.self) (has c.args.set) 1 i holds,
            );
            others = omega (
              arith,
              w.outside-is,
              c.loop-i.invariant.others,
              weight_kept (votes_of c.args.self)
                  (λ j. not (has c.args.set j)) 1 i (rw holds refl),
            );
            fits = omega (arith, w.inside-is, w.outside-is, w.from-inside.ensures, few, c.loop-i.invariant.fits);
          }
      | else-contains w ↦
          let lacks : has c.args.set (1 + i) ≡ false = rw (← next, ← c.new.ensures) (sym c.contains.ensures.value ∙ w.if-contains.false) in
          record {
            members = omega (arith, w.inside-is, c.loop-i.invariant.members, weight_kept (votes_of c.args.self) (has c.args.set) 1 i lacks);
            others = omega (
              arith,
              w.outside-is,
              w.from-outside.ensures,
              here,
              c.loop-i.invariant.others,
              weight_last (votes_of c.args.self) (λ j. not (has c.args.set j)) 1 i (rw lacks refl),
            );
            fits = omega (arith, w.inside-is, w.outside-is, w.from-outside.ensures, few, c.loop-i.invariant.fits);
          }
    ]

pub returns-clause-members : goal.returns-clause-members
returns-clause-members c =
    let done : c.loop-i.i ≡ 16 = omega arith in
    rw done at c.loop-i.invariant.members ∙ votes_inside c.args.self c.args.set

pub returns-clause-all : goal.returns-clause-all
returns-clause-all c =
    let done : c.loop-i.i ≡ 16 = omega arith in
    votes_together c.args.self c.args.set c.loop-i.inside c.loop-i.outside
    (votes_few c.self.inside.count c.self.inside.votes c.args.self c.self.invariant c.self.view_is)
    (rw done at c.loop-i.invariant.members) (rw done at c.loop-i.invariant.others)

pub returns-clause-fits : goal.returns-clause-fits
returns-clause-fits c =
    let done : c.loop-i.i ≡ 16 = omega arith in
    omega (arith, rw done at c.loop-i.invariant.fits)
