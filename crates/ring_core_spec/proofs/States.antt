-- What a core does shows its state: it installs in Recovery, proposes in Gather, and visits tokens of the running
-- ring; and it sends no more new messages than there is room for.
use Rattle.std.proofs.Common.{◌≡◌, true, refl, ℕ, ◌≤◌, min, length, arith, length-take}
use Rattle.std.proofs.lemmas.Bool.{and_parts}
use Rattle.std.specs.Prelude.{take}
use Rattle.ring_base.specs.declared.state.State.{State}
use Rattle.ring_base.specs.declared.state.State.TheVariants.{Gather, Commit, Recovery, Operational, Stopped}
use Rattle.ring_base.specs.Rings.{same_ring}
use Rattle.ring_base.proofs.SameRing.{ring_same}
use Rattle.ring_core_spec.specs.State.{Core, is_stopped}
use Rattle.ring_core_spec.specs.Giving.{installs_in}
use Rattle.ring_core_spec.specs.Joining.{proposes_in}
use Rattle.ring_core_spec.specs.Visiting.{accepts, payloads_to_send}
use Rattle.ring_core_spec.specs.Views.{plan}
use Rattle.ring_token.specs.Frames.{Token}
use Rattle.ring_token.proofs.Packing.{length-packed_payloads}
use Rattle.ring_recover.specs.Wrapping.{wraps_and_end}

-- the tested state is Stopped
pub stopped_state : (s : State) → is_stopped s ≡ true → s ≡ Stopped
stopped_state Stopped e = refl
stopped_state Gather e = absurd cc
stopped_state Commit e = absurd cc
stopped_state Recovery e = absurd cc
stopped_state Operational e = absurd cc

-- a ring is installed in Recovery
pub installs_recovering : {A : Type 0} → (s : State) (c : Core A) → installs_in s c ≡ true → s ≡ Recovery
installs_recovering Gather c e = absurd (cc)
installs_recovering Commit c e = absurd (cc)
installs_recovering Recovery c e = refl
installs_recovering Operational c e = absurd (cc)
installs_recovering Stopped c e = absurd (cc)

-- a ring is proposed in Gather
pub proposes_gathering : {A : Type 0} → (s : State) (c : Core A) → proposes_in s c ≡ true → s ≡ Gather
proposes_gathering Gather c e = refl
proposes_gathering Commit c e = absurd cc
proposes_gathering Recovery c e = absurd cc
proposes_gathering Operational c e = absurd cc
proposes_gathering Stopped c e = absurd cc

-- an accepted token is of the running ring
pub accepted_ring : {A : Type 0} → (c : Core A) (t : Token) → accepts c t ≡ true → t.ring ≡ c.running.ring
accepted_ring c t h =
    ring_same t.ring c.running.ring (and_parts (same_ring t.ring c.running.ring) _ (and_parts _ _ (and_parts _ _ h).0).0).0

-- at most as many payloads are offered as there is room for
pub offers_few : {A : Type 0} → (s : State) (c : Core A) (count : ℕ) → length (payloads_to_send s c count) ≤ count
offers_few Operational c count = length-packed_payloads count c.queue
offers_few Recovery c count = (let xs = wraps_and_end c.me (plan c) c.running.ring c.held in let e : length
    (take count xs) ≡ min count (length xs) = length-take count xs in omega arith)
offers_few Gather c count = omega arith
offers_few Commit c count = omega arith
offers_few Stopped c count = omega arith
