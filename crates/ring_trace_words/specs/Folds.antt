-- Folds of events in which nothing changes.
-- Formats: The command line
use Rattle.std.specs.Prelude.{◌≡◌, ℕ, ◌==◌, if◌then◌else◌}
use Rattle.ring_base.specs.Numbers.{saturating_successor}
use Rattle.ring_trace_words.specs.declared.fold.Fold.{Fold}

-- No frame was delivered, and no copy was lost.
abbrev pub IsEmpty : Fold → Type 0
IsEmpty fold = (fold.frames ≡ 0) × (fold.lost ≡ 0)

-- A frame is delivered to a node in this event. The first frame determines the node whose rounds are counted, and the
-- last one the end of the fold.
pub record HasFrame (event at : ℕ) (old new : Fold) : Type 0 where
  pub first : new.first ≡ (if old.frames == 0 then event else old.first)
  pub node : new.node ≡ (if old.frames == 0 then at else old.node)
  pub last : new.last ≡ event
  pub frames : new.frames ≡ saturating_successor old.frames
  pub rounds : new.rounds ≡ (if new.node == at then saturating_successor old.rounds else old.rounds)
  pub lost : new.lost ≡ old.lost
