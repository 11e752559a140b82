-- The requests of a script are within the limits of a call.
-- Formats: Scripts
use Rattle.std.specs.Prelude.{List}
use Rattle.std.specs.List.{AllByRecursion}
use Rattle.ring_payload.specs.Calls.{CallFits}
use Rattle.ring_script.specs.declared.line.ScriptLine.{ScriptLine}
use Rattle.ring_script.specs.declared.line.ScriptLine.TheVariants.{Call, Deliver, Timeout, Noise, Stop, Cut, Heal, Pump, Show}
use Rattle.ring_script.specs.declared.scripts.NumberedLine.{NumberedLine}

-- A call has an encoding: its number is at least 1, and its operation has at most 1,024 bytes.
abbrev pub IsFit : {A : Type 0} → ScriptLine A → Type 0
IsFit (Call node call) = CallFits call
IsFit (Deliver node frame) = Unit {0}
IsFit (Timeout node kind) = Unit {0}
IsFit (Noise node bytes) = Unit {0}
IsFit (Stop node) = Unit {0}
IsFit (Cut groups) = Unit {0}
IsFit Heal = Unit {0}
IsFit (Pump turns) = Unit {0}
IsFit Show = Unit {0}

-- Each call has an encoding.
abbrev pub AreFit : {A : Type 0} → List (NumberedLine A) → Type 0
AreFit lines = AllByRecursion (λ (l : NumberedLine _). IsFit l.line) lines
