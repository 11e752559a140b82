-- A network that loses nothing: each frame adds a pair for each of its receivers, and the oldest pair is delivered
-- next.
-- Formats: Pump
use Rattle.std.specs.Prelude.{ℕ, zero, suc, List, [], ◌∷◌, ◌++◌, drop, length}
use Rattle.ring_core_spec.specs.State.{receiver_pairs}
use Rattle.ring_core_proof.specs.declared.event.RingEvent.TheVariants.{Deliver}
use Rattle.ring_core_proof.specs.Worlds.{World, world_after_event}

-- A world with its undelivered pairs of frame and receiver, oldest first.
pub record Pumped (A : Type 0) : Type 0 where
  pub world : World A
  pub pairs : List (ℕ × ℕ)

-- The pairs of the frames after the first `count` ones.
abbrev pub pairs_after : {A : Type 0} → ℕ → World A → List (ℕ × ℕ)
pairs_after count w = receiver_pairs (suc count) (drop count w.frames)

-- A world after an event: the pairs that were left, then those of the frames sent since.
abbrev pub pumped_on : {A : Type 0} → World A → World A → List (ℕ × ℕ) → Pumped A
pumped_on old new pairs = record { world = new; pairs = pairs ++ pairs_after (length old.frames) new }

-- The oldest pair is delivered.
abbrev pub turn : {A : Type 0} → World A → List (ℕ × ℕ) → Pumped A
turn w [] = record { world = w; pairs = [] }
turn w (p ∷ pairs) = pumped_on w (world_after_event w (Deliver p.1 p.0)) pairs

-- This many pairs are delivered, one after another.
abbrev pub turns : {A : Type 0} → ℕ → Pumped A → Pumped A
turns zero p = p
turns (suc k) p = turns k (turn p.world p.pairs)

-- `k` pairs are delivered from a world whose frames are all undelivered, fewer if none is left.
abbrev pub pump : {A : Type 0} → ℕ → World A → Pumped A
pump k w = turns k (record { world = w; pairs = pairs_after 0 w })
