-- How a log adopts a base.
-- Rules: The replicated log 6 and 8
use Rattle.std.specs.Prelude.{ℕ, if◌then◌else◌, List, Option, Some, None}
use Rattle.ring_log.specs.declared.adoption.Adoption.{Adoption}
use Rattle.ring_log.specs.declared.adoption.Adoption.TheVariants.{Refused, Joined, Restored}
use Rattle.ring_log.specs.declared.base.Base.{Base}
use Rattle.ring_log.specs.Logs.{Log, restores, is_adoptable}

-- The outcome `Restored` with the snapshot's bytes and the log as it was; without a snapshot the outcome is `Joined`.
abbrev pub restored_with : {A : Type 0} → Log A → Option (List ℕ) → Adoption A
restored_with log None = Joined
restored_with log (Some bytes) = Restored bytes log

-- The outcome of adopting a base: refused if it may not be adopted, otherwise restored or joined.
abbrev pub adoption : {A : Type 0} → Log A → Base A → Adoption A
adoption log base = if is_adoptable log base then (if restores log base then restored_with log base.snapshot else Joined) else Refused
