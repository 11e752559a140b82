use Rattle.ring_token.proofs.Safe.{marks_safe, pairs_safe}
use Rattle.ring_token.proofs.laws.two_visits_safe_law.Goals as goal

pub returns-clause-marks : goal.returns-clause-marks
returns-clause-marks g c = marks_safe

pub returns-clause-pairs : goal.returns-clause-pairs
returns-clause-pairs g c = pairs_safe
