-- A life as virtual synchrony sees it: what was agreed and delivered in it, and its changes of configuration.
-- Rules: Outputs 9 and 10
use Rattle.std.specs.Prelude.{◌≡◌, ℕ, Bool, true, false, ◌&&◌, if◌then◌else◌, List, [], ◌∷◌, ◌++◌, filter, filter_map}
use Rattle.ring_base.specs.Numbers.{numbers_from}
use Rattle.ring_base.specs.Rings.{same_ring}
use Rattle.ring_base.specs.declared.ring_id.RingId.{RingId}
use Rattle.ring_payload.specs.PayloadKinds.{is_user}
use Rattle.ring_wire.specs.declared.message.Message.{Message}
use Rattle.ring_core_spec.specs.Windows.{found}
use Rattle.ring_core_spec.specs.Commits.{Configuration}
use Rattle.ring_core_proof.specs.Worlds.{World, is_node}
use Rattle.ring_core_proof.specs.Lives.{Stage, InRegular, InTransitional, life_of, stages_of, is_regular_of, leads_to, delivered_in}

-- Processor i is one of the world's.
abbrev pub IsNode : {A : Type 0} → World A → ℕ → Type 0
IsNode w i = is_node w i ≡ true

-- The stages of a processor's life, newest first.
abbrev pub stages_in : {A : Type 0} → World A → ℕ → List (Stage A)
stages_in w i = stages_of (life_of w i)

-- Deliveries of a life

-- The agreed messages of a ring in one stage.
abbrev pub agreed_at : {A : Type 0} → RingId → Stage A → List (Message A)
agreed_at ring (InRegular at agreed safe) = if same_ring at.ring ring then agreed else []
agreed_at ring (InTransitional old new members rest) = []

-- All agreed messages of a ring, in order.
abbrev pub agreed_of : {A : Type 0} → RingId → List (Stage A) → List (Message A)
agreed_of ring [] = []
agreed_of ring (s ∷ older) = agreed_of ring older ++ agreed_at ring s

-- All delivered messages, in order.
abbrev pub deliveries_of : {A : Type 0} → List (Stage A) → List (Message A)
deliveries_of [] = []
deliveries_of (s ∷ older) = deliveries_of older ++ delivered_in s

-- The user messages of a ring's text from number 1 up to another, ascending.
abbrev pub users_upto : {A : Type 0} → List (Message A) → RingId → ℕ → List (Message A)
users_upto text ring upto = filter (λ (x : Message _). is_user x.payload) (filter_map (found text ring) (numbers_from 1 upto))

-- Configurations of a life

-- The configuration of a stage, if it is a regular one.
abbrev pub regular_at : {A : Type 0} → Stage A → List Configuration
regular_at (InRegular at agreed safe) = at ∷ []
regular_at (InTransitional old new members rest) = []

-- The regular configurations, newest first.
abbrev pub regulars_of : {A : Type 0} → List (Stage A) → List Configuration
regulars_of [] = []
regulars_of (s ∷ older) = regular_at s ++ regulars_of older

-- The members of a stage's configuration.
abbrev pub members_in : {A : Type 0} → Stage A → ℕ
members_in (InRegular at agreed safe) = at.members
members_in (InTransitional old new members rest) = members

-- The stage is a regular configuration.
abbrev pub is_regular : {A : Type 0} → Stage A → Bool
is_regular (InRegular at agreed safe) = true
is_regular (InTransitional old new members rest) = false

-- The newest stage is a regular configuration; stages are newest first.
abbrev pub ends_in_regular : {A : Type 0} → List (Stage A) → Bool
ends_in_regular [] = false
ends_in_regular (s ∷ older) = is_regular s

-- A regular configuration follows a transitional one that leads to its ring, a transitional one follows the regular one
-- of its old ring.
abbrev pub follows : {A : Type 0} → Stage A → Stage A → Bool
follows (InRegular at agreed safe) before = leads_to at.ring before
follows (InTransitional old new members rest) before = is_regular_of old before

-- Each stage follows the one before it, newest first: regular and transitional configurations alternate.
abbrev pub alternate : {A : Type 0} → List (Stage A) → Bool
alternate [] = true
alternate (s ∷ []) = true
alternate (s ∷ before ∷ older) = follows s before && alternate (before ∷ older)

-- A change: the regular configuration that was left, with its deliveries, the transitional one, with its deliveries,
-- and the next regular one.
pub record Change (A : Type 0) : Type 0 where
  pub old : Configuration
  pub regular : List (Message A)
  pub transitional_members : ℕ
  pub rest : List (Message A)
  pub new : Configuration

-- The change from a regular configuration, if the next older stage is one.
abbrev pub change_from : {A : Type 0} → Configuration → ℕ → List (Message A) → List (Stage A) → List (Change A)
change_from new transitional_members rest [] = []
change_from new transitional_members rest (InTransitional old between members left ∷ older) = []
change_from new transitional_members rest (InRegular at agreed safe ∷ older) =
    record { old = at; regular = delivered_in (InRegular at agreed safe); transitional_members = transitional_members; rest = rest; new = new } ∷ []

-- The change by way of a transitional configuration.
abbrev pub change_by : {A : Type 0} → Configuration → List (Stage A) → List (Change A)
change_by new [] = []
change_by new (InRegular at agreed safe ∷ older) = []
change_by new (InTransitional old between members rest ∷ older) = change_from new members rest older

-- The change to a regular configuration.
abbrev pub change_to : {A : Type 0} → Stage A → List (Stage A) → List (Change A)
change_to (InRegular at agreed safe) older = change_by at older
change_to (InTransitional old new members rest) older = []

-- The changes of a life, newest first.
abbrev pub changes_of : {A : Type 0} → List (Stage A) → List (Change A)
changes_of [] = []
changes_of (s ∷ older) = change_to s older ++ changes_of older

-- The changes of a processor's life in a world.
abbrev pub changes_in : {A : Type 0} → World A → ℕ → List (Change A)
changes_in w i = changes_of (stages_in w i)

-- The messages of the old ring delivered before the next regular configuration.
abbrev pub delivered_by : {A : Type 0} → Change A → List (Message A)
delivered_by c = c.regular ++ c.rest
