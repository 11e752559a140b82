-- The numbers and the texts of the refusals.
-- Rules: Refusals 1
use Rattle.std.specs.Prelude.{ℕ, List, codes}
use Rattle.ring_base.specs.declared.fault.Fault.{Fault}
use Rattle.ring_base.specs.declared.fault.Fault.TheVariants.{NotMember, PendingFull, OpTooLong, Conflict, Stale}
use Rattle.ring_base.specs.declared.fault.Fault.TheVariants.{NumberGap, SessionsFull, Stopped, BookFull, Stranger}
use Rattle.ring_base.specs.declared.fault.Fault.TheVariants.{Memory, BadFrame, BadScript, NoAnswer, BadSnapshot}

-- the number of a refusal, 1 to 15
abbrev pub fault_number : Fault → ℕ
fault_number NotMember = 1
fault_number PendingFull = 2
fault_number OpTooLong = 3
fault_number Conflict = 4
fault_number Stale = 5
fault_number NumberGap = 6
fault_number SessionsFull = 7
fault_number Stopped = 8
fault_number BookFull = 9
fault_number Stranger = 10
fault_number Memory = 11
fault_number BadFrame = 12
fault_number BadScript = 13
fault_number NoAnswer = 14
fault_number BadSnapshot = 15

-- the text of a refusal, as its characters' codes
abbrev pub fault_text : Fault → List ℕ
fault_text NotMember = codes "not a member"
fault_text PendingFull = codes "too many pending calls"
fault_text OpTooLong = codes "operation too long"
fault_text Conflict = codes "number used for another call"
fault_text Stale = codes "stale number"
fault_text NumberGap = codes "number gap"
fault_text SessionsFull = codes "sessions full"
fault_text Stopped = codes "stopped"
fault_text BookFull = codes "book full"
fault_text Stranger = codes "stranger"
fault_text Memory = codes "out of memory"
fault_text BadFrame = codes "bad frame"
fault_text BadScript = codes "bad script"
fault_text NoAnswer = codes "no answer"
fault_text BadSnapshot = codes "bad snapshot"
