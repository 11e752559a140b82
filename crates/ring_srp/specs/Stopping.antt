-- A core that runs, or that has stopped and keeps what it was before.
-- Rules: Rings and states 12
use Rattle.std.specs.Prelude.{◌≡◌, false}
use Rattle.ring_core_spec.specs.State.{Core, halted}
use Rattle.ring_core_spec.specs.Giving.{may_install}
use Rattle.ring_srp.specs.declared.srp.StoppableCore.{StoppableCore}
use Rattle.ring_srp.specs.declared.srp.StoppableCore.TheVariants.{Running, Stopped}

-- The core that contracts see: the running one, or, after a stop, the last one before it, in Stopped.
abbrev pub core_of : {A : Type 0} → StoppableCore A → Core A
core_of (Running c) = c
core_of (Stopped stopped) = halted stopped.core_at_stop.value

-- Between steps no installation is due; after a stop the last installed ring is kept.
abbrev pub IsBetweenSteps : {A : Type 0} → StoppableCore A → Type 0
IsBetweenSteps (Running c) = may_install c ≡ false
IsBetweenSteps (Stopped stopped) = stopped.last_installed ≡ stopped.core_at_stop.value.installed
