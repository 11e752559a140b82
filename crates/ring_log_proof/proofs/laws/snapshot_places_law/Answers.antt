use Rattle.ring_log.specs.EpochHistories.{fronts_below}
use Rattle.ring_log_proof.proofs.Prefixes.{fronts-stand}
use Rattle.ring_log_proof.proofs.FilledEpochs.{facts-filled, rules-whole, filled-on}
use Rattle.ring_log_proof.proofs.laws.snapshot_places_law.Goals as goal

pub returns-clause-stand : goal.returns-clause-stand
returns-clause-stand g c = fronts-stand

pub returns-clause-facts : goal.returns-clause-facts
returns-clause-facts g c = λ group node_epochs members text facts bounds. facts-filled node_epochs (λ p. fronts_below group node_epochs (bounds p)) members text facts

pub returns-clause-rules : goal.returns-clause-rules
returns-clause-rules g c = λ group node_epochs rises epochs_with_sends drops bounds above. rules-whole group node_epochs bounds above rises epochs_with_sends drops

pub returns-clause-goes_on : goal.returns-clause-goes_on
returns-clause-goes_on g c = λ group node_epochs after members text facts epochs_with_sends drops rises on bounds more above later.
    filled-on group node_epochs bounds above members text facts epochs_with_sends drops after on rises more later
