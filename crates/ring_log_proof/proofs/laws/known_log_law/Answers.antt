use Rattle.ring_log_proof.proofs.KnownLogSuffixes.{view, head-is, sound-same}
use Rattle.ring_log_proof.proofs.Moment.{view-at, sound-at, keeps-known}
use Rattle.ring_log_proof.proofs.laws.known_log_law.Goals as goal

pub returns-clause-rests : goal.returns-clause-rests
returns-clause-rests g c = view

pub returns-clause-head : goal.returns-clause-head
returns-clause-head g c = head-is

pub returns-clause-sound : goal.returns-clause-sound
returns-clause-sound g c = sound-same

pub returns-clause-orderly : goal.returns-clause-orderly
returns-clause-orderly g c = λ group m p.
    (view-at group m.node_epochs m.members m.text m.facts m.discipline p, sound-at group m.node_epochs m.members m.text m.facts m.discipline p)

pub returns-clause-keeps : goal.returns-clause-keeps
returns-clause-keeps g c = λ group m. keeps-known group m.node_epochs m.members m.text m.facts m.discipline
