-- Appending the bytes of a line's frame.
-- Rules: The book and the threads 15; Refusals 2
use Rattle.std.specs.Prelude.{ℕ, ◌≡◌, ◌++◌, List, Option, None, Some, Result, Ok, Err, slice_get, IsSomeAnd}
use Rattle.ring_base.specs.declared.fault.Fault.{Fault}
use Rattle.ring_base.specs.declared.fault.Fault.TheVariants.{Memory, Stranger}
pub use Rattle.ring_core_spec.specs.State.{OutgoingFrame}
use Rattle.ring_wire.specs.Frames.{encoding_of}

-- the frame's bytes are appended; Stranger if there is no frame, otherwise only Memory; a refusal changes nothing
abbrev pub IsPut : {A : Type 0} → Option (OutgoingFrame A) → List ℕ → List ℕ → Result (Unit {0}) Fault → Type 0
IsPut (Some s) old new (Ok done) = new ≡ old ++ encoding_of s.frame
IsPut (Some s) old new (Err fault) = (fault ≡ Memory) × (new ≡ old)
IsPut None old new (Ok done) = ⊥
IsPut None old new (Err fault) = (fault ≡ Stranger) × (new ≡ old)

-- these are the receivers and the bytes of the frame that was sent at the place
abbrev pub IsCopyOf : {A : Type 0} → List (OutgoingFrame A) → ℕ → ℕ → List ℕ → Type 0
IsCopyOf {A} sent place to bytes = IsSomeAnd (slice_get sent place) (λ (s : OutgoingFrame A). (to ≡ s.to) × (bytes ≡ encoding_of s.frame))
