-- The relation between a node's newest epoch and its core.
-- Rules: Outputs 9; The replicated log 1
use Rattle.std.specs.Prelude.{◌≡◌, ◌≤◌, false, List, ◌∷◌}
use Rattle.ring_core_spec.specs.State.{Core}
use Rattle.ring_core_spec.specs.Views.{mark}
use Rattle.ring_core_spec.specs.Giving.{may_install}
use Rattle.ring_log.specs.Epochs.{Epoch}

-- the newest epoch is in the ring installed last, its mark is at most the core's there, and no installation is due
pub record IsMarked {A : Type 0} (core : Core A) (epochs : List (Epoch A)) : Type 0 where
  pub epoch : Epoch A
  pub older : List (Epoch A)
  pub parts : epochs ≡ epoch ∷ older
  pub ring : epoch.ring ≡ core.installed.ring
  pub marked : epoch.mark ≤ mark core core.installed.ring
  pub ready : may_install core ≡ false
