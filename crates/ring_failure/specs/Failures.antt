-- The reason why a command ends early, and the line that reports it.
-- Formats: The command line
use Rattle.std.specs.Prelude.{◌≡◌, ℕ, ◌⊎◌, List, [], ◌++◌, codes}
use Rattle.std.specs.Fmt.{decimal}
use Rattle.ring_base.specs.Fault.{fault_number, fault_text}
use Rattle.ring_base.specs.declared.fault.Fault.{Fault}
use Rattle.ring_base.specs.declared.fault.Fault.TheVariants as fault
use Rattle.ring_failure.specs.declared.failure.Failure.{Failure}
use Rattle.ring_failure.specs.declared.failure.Failure.TheVariants.{Refused, BadFrame, BadScript, Output}
use Rattle.ring_script.specs.declared.scripts.ScriptFault.{ScriptFault}
use Rattle.ring_script.specs.declared.scripts.ScriptFault.TheVariants as script

-- The failure for a script that couldn't be read or parsed.
abbrev pub script_failure : ScriptFault → Failure
script_failure script.Memory = Refused fault.Memory
script_failure (script.AtLine line) = BadScript line

-- A fault's number and text: the beginning of each line on standard error.
abbrev pub numbered_fault_text : Fault → List ℕ
numbered_fault_text f = codes "totem: " ++ decimal (fault_number f) ++ codes " " ++ fault_text f

-- The line on standard error, without its line feed; nothing for a failed output.
abbrev pub failure_text : Failure → List ℕ
failure_text (Refused f) = numbered_fault_text f
failure_text (BadFrame byte) = numbered_fault_text fault.BadFrame ++ codes " at byte " ++ decimal byte
failure_text (BadScript line) = numbered_fault_text fault.BadScript ++ codes " at line " ++ decimal line
failure_text Output = []

-- Why work on an output ends early: the output failed, or an allocation failed.
abbrev pub IsOutputOrMemory : Failure → Type 0
IsOutputOrMemory failure = (failure ≡ Output) ⊎ (failure ≡ Refused fault.Memory)
