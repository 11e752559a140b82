use Rattle.ring_log_proof.proofs.Moment.{safe-stays}
use Rattle.ring_log_proof.proofs.laws.safe_log_persists_law.Goals as goal

pub returns : goal.returns
returns g c = λ group m c e xs ys log w below safe is front exch.
    safe-stays group m.node_epochs m.members m.text m.facts m.discipline c e xs ys log w below safe is front exch
