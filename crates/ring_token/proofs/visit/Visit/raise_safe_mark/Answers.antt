-- One more raise of the ring's mark.
use contract.BorrowLft.{⊑_meet, ⊑_static, ⊑_refl}
use Rattle.ring_token.proofs.VisitNumbers.{kept_raise}
use Rattle.ring_token.proofs.visit.Visit.raise_safe_mark.Goals as goal

pub invariant_of-self : goal.invariant_of-self
invariant_of-self g c = rw c.ghost_of-history.ensures (
  c.self.invariant.0,
  c.self.invariant.1,
  kept_raise _ c.args.mark _ _ _ _ c.self.invariant.2 c.max-self-inside.ensures,
)

pub ghost_of-history-requires : goal.ghost_of-history-requires
ghost_of-history-requires g c κs within = search (⊑_meet, ⊑_static, ⊑_refl) depth 40
