-- Facts about recovery in every run. Each installed ring has every member's End in the front. In Recovery the safe
-- mark of the old ring is the greatest reported, a transitional member reported each number held of it, and the core
-- holds each inner message of it.
-- Rules: Recovery 1, 3, 6 and 7
use Rattle.std.specs.Prelude.{◌≡◌, ℕ, ◌<◌, ◌≤◌, true}
use Rattle.ring_base.specs.Processors.{has, elements}
use Rattle.ring_base.specs.declared.ring_id.RingId.{RingId}
use Rattle.ring_payload.specs.PayloadKinds.{is_end}
use Rattle.ring_payload.specs.declared.content.Payload.TheVariants.{Wrapped}
use Rattle.ring_payload.specs.declared.content.Wrapped.{Wrapped as WrappedMessage}
use Rattle.ring_wire.specs.declared.message.Message.{Message}
use Rattle.ring_core_spec.specs.Windows.{holds}
use Rattle.ring_core_spec.specs.Commits.{Configuration}
use Rattle.ring_core_spec.specs.Recoveries.{safe, is_known}
use Rattle.ring_core_spec.specs.State.{Core}
use Rattle.ring_core_spec.specs.Views.{front, mark, plan}
use Rattle.ring_core_proof.specs.FactWords.{IsIn}

-- An End of processor i of the ring lies within the front.
pub record HoldsEnd {A : Type 0} (c : Core A) (ring : RingId) (i : ℕ) : Type 0 where
  pub message : Message A
  pub held : IsIn message c.held
  pub ring_is : message.ring ≡ ring
  pub sender : message.sender ≡ i
  pub ended : is_end message.payload ≡ true
  pub within : message.number ≤ front c ring

-- Each member's End lies within the front, for each ring installed after the opening.
abbrev pub HoldsEnds : {A : Type 0} → Core A → Type 0
HoldsEnds c = (at : Configuration) → IsIn at c.installs → 0 < at.ring.seq → (i : ℕ) → IsIn i (elements at.members) → HoldsEnd c at.ring i

-- The core holds the inner messages that the running ring's messages wrap of the old ring.
abbrev pub HoldsInner : {A : Type 0} → Core A → Type 0
HoldsInner {A} c =
    (x : Message A) → IsIn x c.held → x.ring ≡ c.running.ring → (w : WrappedMessage A) → x.payload ≡ Wrapped w → w.ring ≡ c.installed.ring →
    holds c.held c.installed.ring w.number ≡ true

-- The facts of a core in Recovery: it is a transitional member, the safe mark of the old ring is the greatest that they
-- report, one of them reported each number that it holds of that ring, and it holds each inner message.
pub record IsRecovering {A : Type 0} (c : Core A) : Type 0 where
  pub transitional_member : has (plan c).transitional_members c.me ≡ true
  pub marked : mark c c.installed.ring ≡ safe (plan c)
  pub within : (n : ℕ) → holds c.held c.installed.ring n ≡ true → is_known (plan c) n ≡ true
  pub inner_messages : HoldsInner c
