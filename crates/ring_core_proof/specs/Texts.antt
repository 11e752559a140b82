-- The text of a ring: all messages that any processor ever held of it.
-- Rules: Outputs 8
use Rattle.std.specs.Prelude.{◌≡◌, ℕ, List, [], ◌∷◌, ◌++◌, Contains}
use Rattle.ring_base.specs.Numbers.{numbers_from}
use Rattle.ring_base.specs.declared.ring_id.RingId.{RingId}
use Rattle.ring_wire.specs.declared.message.Message.{Message}
use Rattle.ring_core_spec.specs.Windows.{of_ring}
use Rattle.ring_core_spec.specs.State.{Core}
use Rattle.ring_core_proof.specs.Worlds.{World}

-- The messages that these processors held of a ring, processor by processor, each newest first.
abbrev pub held_by : {A : Type 0} → (ℕ → Core A) → RingId → List ℕ → List (Message A)
held_by cores ring [] = []
held_by cores ring (i ∷ is) = of_ring ring (cores i).held ++ held_by cores ring is

-- The text of a ring, stopped processors included; a message is in it once for each processor that held it.
abbrev pub text_of : {A : Type 0} → World A → RingId → List (Message A)
text_of w ring = held_by w.cores ring (numbers_from 1 w.total)

-- Each number of a ring has one sender and one payload.
abbrev pub HasOneText : {A : Type 0} → World A → RingId → Type 0
HasOneText {A} w ring = (x y : Message A) → Contains (text_of w ring) x → Contains (text_of w ring) y → x.number ≡ y.number → x ≡ y
