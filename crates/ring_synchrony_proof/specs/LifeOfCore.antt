-- The life that a core's facts make up: each ring that it installed, with the user messages up to its front there and
-- its safe mark, and between two of them what the plan of the newer one delivered of the older one.
-- Rules: Outputs 9 and 10
use Rattle.std.specs.Prelude.{List, [], ◌∷◌}
use Rattle.ring_core_spec.specs.Commits.{Configuration}
use Rattle.ring_core_spec.specs.Recoveries.{Plan, plan_of, rest_messages}
use Rattle.ring_core_spec.specs.State.{Core}
use Rattle.ring_core_spec.specs.Views.{front, mark, entries_for}
use Rattle.ring_core_spec.specs.Giving.{user_messages_between}
use Rattle.ring_core_proof.specs.Lives.{Stage, InRegular, InTransitional, Life}

-- The regular stage of an installed ring, with its agreed messages and its safe mark.
abbrev pub regular_stage : {A : Type 0} → Core A → Configuration → Stage A
regular_stage c at = InRegular at (user_messages_between c at.ring 0 (front c at.ring)) (mark c at.ring)

-- The plan by which a ring was installed after another.
abbrev pub plan_into : {A : Type 0} → Core A → Configuration → Configuration → Plan
plan_into c next old = plan_of old.ring next.members (entries_for next.ring c.plans)

-- The transitional stage from the old ring to the next.
abbrev pub between : {A : Type 0} → Core A → Configuration → Configuration → Stage A
between c next old = InTransitional old.ring next.ring (plan_into c next old).transitional_members (rest_messages (plan_into c next old) c.held)

-- The stages before an installed ring, from the rings installed before it, newest first.
abbrev pub earlier_stages : {A : Type 0} → Core A → Configuration → List Configuration → List (Stage A)
earlier_stages c next [] = []
earlier_stages c next (old ∷ older) = between c next old ∷ regular_stage c old ∷ earlier_stages c old older

-- The life whose newest ring is this one, with the stages before it.
abbrev pub core_life_in : {A : Type 0} → Core A → Configuration → List Configuration → Life A
core_life_in c at older = record { newest = regular_stage c at; earlier = earlier_stages c at older }

-- The life through these rings, newest first; if there are none, in the present installed ring.
abbrev pub core_life_through : {A : Type 0} → Core A → List Configuration → Life A
core_life_through c [] = core_life_in c c.installed []
core_life_through c (at ∷ older) = core_life_in c at older

-- The life through all rings that a core installed.
abbrev pub core_life : {A : Type 0} → Core A → Life A
core_life c = core_life_through c c.installs
