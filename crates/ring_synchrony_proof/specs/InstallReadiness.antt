-- When a ring is installed: if recovery is ready nothing is missing, and a ring that is ready is installed in that very
-- step.
-- Rules: Recovery 7 and 8
use Rattle.std.specs.Prelude.{◌≡◌, ◌<◌, true}
use Rattle.ring_base.specs.declared.state.State.TheVariants.{Recovery}
use Rattle.ring_core_spec.specs.Commits.{Configuration}
use Rattle.ring_core_spec.specs.Recoveries.{is_complete, is_ready}
use Rattle.ring_core_spec.specs.State.{Core}
use Rattle.ring_core_spec.specs.Views.{mark, plan}
use Rattle.ring_core_proof.specs.FactWords.{IsIn}

-- If recovery is ready, the core holds every number that a transitional member holds.
abbrev pub ReadyIsComplete : {A : Type 0} → Core A → Type 0
ReadyIsComplete c = c.state ≡ Recovery → is_ready c.held c.running.ring c.running.members (mark c c.running.ring) ≡ true → is_complete (plan c) c.held ≡ true

-- A ring that the core takes part in, except its opening ring, is installed if it is ready.
abbrev pub ReadyIsInstalled : {A : Type 0} → Core A → Type 0
ReadyIsInstalled c = (x : Configuration) → IsIn x c.rings → 0 < x.ring.seq → is_ready c.held x.ring x.members (mark c x.ring) ≡ true → IsIn x c.installs
