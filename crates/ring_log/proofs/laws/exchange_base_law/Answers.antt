use Rattle.ring_log.proofs.WholeExchanges.{handed, ends, later, handed-based, handed-snapshot}
use Rattle.ring_log.proofs.ReceivedPieces.{pieces-heard}
use Rattle.ring_log.proofs.laws.exchange_base_law.Goals as goal

pub returns-clause-handed : goal.returns-clause-handed
returns-clause-handed g c = handed

pub returns-clause-ends : goal.returns-clause-ends
returns-clause-ends g c = ends

pub returns-clause-later : goal.returns-clause-later
returns-clause-later g c = later

pub returns-clause-base : goal.returns-clause-base
returns-clause-base g c = handed-based

pub returns-clause-snapshot : goal.returns-clause-snapshot
returns-clause-snapshot g c = handed-snapshot

pub returns-clause-pieces : goal.returns-clause-pieces
returns-clause-pieces g c = pieces-heard
