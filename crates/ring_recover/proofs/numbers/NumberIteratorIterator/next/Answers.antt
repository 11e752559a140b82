-- The first bit set from the offset on is that of the first remaining number.
use Rattle.std.proofs.Common.{◌∙◌, refl, sym, arith, ap, length}
use Rattle.ring_recover.proofs.NumbersPassing.{chosen_none, chosen_next}
use Rattle.ring_recover.proofs.numbers.NumberIteratorIterator.next.Goals as goal

pub returns-then-found-eq-COUNT-clause-steps : goal.returns-then-found-eq-COUNT-clause-steps
returns-then-found-eq-COUNT-clause-steps c = (
  sym c.self.view_is ∙ chosen_none c.self.inside.after c.self.inside.offsets.words c.self.inside.offset
      c.first_from-found.result c.first_from-found.ensures (omega (arith, c.if-found-eq-COUNT.true)),
  refl,
)

pub returns-clause-steps : goal.returns-clause-steps
returns-clause-steps c =
    sym c.self.view_is ∙ chosen_next c.self.inside.after c.self.inside.offsets.words c.self.inside.offset
    c.first_from-found.result c.first_from-found.ensures (λ e. omega (arith, c.if-found-eq-COUNT.false, e))

pub returns-clause-goes : goal.returns-clause-goes
returns-clause-goes c = record {
  on = λ finite. (tt, tt, omega (arith, ap length (returns-clause-steps c)));
  keeps = tt;
  rests = λ finite. tt;
}
