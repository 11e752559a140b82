use Rattle.ring_order_proof.proofs.NodeLimits.{node_opens, node_halts, node_log_fits, stepped_fits, submitted_fits}
use Rattle.ring_order_proof.proofs.limit_laws.node_fits_law.Goals as goal

pub returns-clause-opening : goal.returns-clause-opening
returns-clause-opening g c = node_opens

pub returns-clause-step : goal.returns-clause-step
returns-clause-step g c = λ n input fits comes. (stepped_fits g.O.Object.sequential n fits input comes).node

pub returns-clause-sends : goal.returns-clause-sends
returns-clause-sends g c = λ n input fits comes. (stepped_fits g.O.Object.sequential n fits input comes).sends

pub returns-clause-stopped : goal.returns-clause-stopped
returns-clause-stopped g c = node_halts

pub returns-clause-submit : goal.returns-clause-submit
returns-clause-submit g c = submitted_fits

pub returns-clause-log : goal.returns-clause-log
returns-clause-log g c = node_log_fits
