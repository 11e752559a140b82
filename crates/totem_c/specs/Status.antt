-- The numbers that C gets for a status.
-- Formats: A library for C
use Rattle.std.specs.Prelude.{ℕ}
use Rattle.ring_base.specs.Fault.{fault_number}
use Rattle.totem_c.specs.declared.status.Status.{Status}
use Rattle.totem_c.specs.declared.status.Status.TheVariants.{Done, Refused, Misused}

-- The number of a status: 0 if the call was done, the number of a fault, or 255.
abbrev pub status_number : Status → ℕ
status_number Done = 0
status_number (Refused fault) = fault_number fault
status_number Misused = 255
