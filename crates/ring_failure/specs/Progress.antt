-- The progress of work that is done in rounds.
-- Formats: The command line
use Rattle.std.specs.Prelude.{ℕ, ◌≡◌, ◌⊎◌, ◌*◌, ◌/◌, ◌-◌, ◌^◌, min, max, true}
use Rattle.ring_failure.specs.declared.progress_meter.ProgressMeter.{ProgressMeter}

-- The number of items that the next round should have: at least the work divided by 500.
abbrev pub round_size : ProgressMeter → ℕ
round_size meter = max meter.round_items (meter.item_count / 500)

-- The size of the round after one of this size: twice as large, half as large, or the same.
abbrev pub IsSizeAfter : ℕ → ℕ → Type 0
IsSizeAfter old new = (new ≡ min (old * 2) (2 ^ 64 - 1)) ⊎ ((new ≡ old / 2) ⊎ (new ≡ old))

-- A round has ended: the work is the same, the next round's size follows from this one's, and progress that was shown
-- stays shown.
pub record HasEndedRound (old new : ProgressMeter) : Type 0 where
  pub many : new.item_count ≡ old.item_count
  pub size : IsSizeAfter old.round_items new.round_items
  pub shown : old.is_shown ≡ true → new.is_shown ≡ true
