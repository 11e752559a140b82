use Rattle.std.proofs.Common.{refl, sym, subst}
use Rattle.ring_join.specs.Gatherers.{Gatherer, HasSetsOf}
use Rattle.ring_join.proofs.SetMerging.{widens_changes}
use Rattle.ring_join.proofs.gather.Gather.hear.Goals as goal

pub returns-in-Merges-clause-changed : goal.returns-in-Merges-clause-changed
returns-in-Merges-clause-changed c = (
  λ t same. widens_changes c.args.self.now.me c.args.self.now.gathering c.args.join (sym c.in-Merges.ensures)
      (subst (λ (g : Gatherer). HasSetsOf c.args.self.now.gathering g.gathering) c.merge_join.ensures same),
  λ n. refl,
)
