-- The faults with which a host's calls are refused.
-- Rules: The book and the threads 22, 24 and 25
use Rattle.std.specs.Prelude.{⊤}
use Rattle.ring_base.specs.declared.fault.Fault.{Fault}
use Rattle.ring_base.specs.declared.fault.Fault.TheVariants.{PendingFull, Stopped, BookFull, Stranger, Memory}

-- The faults of a turn or a stop.
abbrev pub IsTurnFault : Fault → Type 0
IsTurnFault Stopped = ⊤
IsTurnFault BookFull = ⊤
IsTurnFault Stranger = ⊤
IsTurnFault Memory = ⊤
IsTurnFault _ = ⊥

-- The faults of a submit.
abbrev pub IsSubmitFault : Fault → Type 0
IsSubmitFault PendingFull = ⊤
IsSubmitFault fault = IsTurnFault fault
