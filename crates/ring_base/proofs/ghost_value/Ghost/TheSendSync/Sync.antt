-- A `Ghost` owns nothing, so any thread may share it.
use denote.RattleType.{RattleType}
use denote.Param.Send.{IsSync, part_keyless}
use Rattle.ring_base.specs.contracts.ghost_value.Ghost.{the_row}
use Rattle.ring_base.proofs.ghost_value.Ghost.TheSendSync.Send.{send}

pub sync : (T : RattleType) → IsSync (the_row T)
sync T = record { shared = λ d b o κ q. part_keyless (the_row T) (send T) q d b o }
