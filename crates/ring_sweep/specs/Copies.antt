-- Copies of a script's lines.
use Rattle.std.specs.Prelude.{◌≡◌, ℕ, Vec}
use Rattle.ring_script.specs.declared.line.ScriptLine.{ScriptLine}
use Rattle.ring_script.specs.declared.line.ScriptLine.TheVariants.{Call, Deliver, Timeout, Noise, Stop, Cut, Heal, Pump, Show}

-- A copy of a line is the line itself, or, for noise, a line with the same bytes.
abbrev pub IsCopyOf : {A : Type 0} → ScriptLine A → ScriptLine A → Type 0
IsCopyOf {A} (Noise node bytes) l = (copy : Vec ℕ A) × (l ≡ Noise node copy) × (copy.items ≡ bytes.items)
IsCopyOf (Call node call) l = l ≡ Call node call
IsCopyOf (Deliver node frame) l = l ≡ Deliver node frame
IsCopyOf (Timeout node kind) l = l ≡ Timeout node kind
IsCopyOf (Stop node) l = l ≡ Stop node
IsCopyOf (Cut groups) l = l ≡ Cut groups
IsCopyOf Heal l = l ≡ Heal
IsCopyOf (Pump turns) l = l ≡ Pump turns
IsCopyOf Show l = l ≡ Show
