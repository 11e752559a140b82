-- The life of a processor, computed from its outputs: its configurations with their deliveries.
-- Rules: Outputs 9 and 10
use Rattle.std.specs.Prelude.{ℕ, Bool, true, false, ◌&&◌, ◌==◌, nat_lt, nat_le, if◌then◌else◌, List, [], ◌∷◌, ◌++◌, filter, filter_map, Option, Some, None}
use Rattle.ring_base.specs.Rings.{same_ring}
use Rattle.ring_base.specs.declared.ring_id.RingId.{RingId}
use Rattle.ring_wire.specs.declared.message.Message.{Message}
use Rattle.ring_core_spec.specs.Commits.{Configuration}
use Rattle.ring_core_spec.specs.declared.out.Out.{Out}
use Rattle.ring_core_spec.specs.declared.out.Out.TheVariants.{Send as SendOut, Agreed, Safe, Trans, Rest, Regular}
use Rattle.ring_core_spec.specs.State.{opening_ring}
use Rattle.ring_core_proof.specs.Worlds.{World}

-- A configuration in a processor's life, with its deliveries.
pub data Stage (A : Type 0) : Type 0 where
  -- A regular configuration, with its agreed messages, and the number up to which it is safe.
  InRegular : (configuration : Configuration) → (agreed : List (Message A)) → (safe : ℕ) → Stage A
  -- A transitional configuration: the members that go together from the old ring to the new one, with the rest of the
  -- old ring.
  InTransitional : (old : RingId) → (new : RingId) → (members : ℕ) → (rest : List (Message A)) → Stage A

-- The outputs that belong to a stage

-- The stage is the regular configuration of this ring.
abbrev pub is_regular_of : {A : Type 0} → RingId → Stage A → Bool
is_regular_of ring (InRegular at agreed safe) = same_ring at.ring ring
is_regular_of ring (InTransitional old new members rest) = false

-- The stage is a transitional configuration from this ring.
abbrev pub leaves : {A : Type 0} → RingId → Stage A → Bool
leaves ring (InRegular at agreed safe) = false
leaves ring (InTransitional old new members rest) = same_ring old ring

-- The stage is a transitional configuration to this ring.
abbrev pub leads_to : {A : Type 0} → RingId → Stage A → Bool
leads_to ring (InRegular at agreed safe) = false
leads_to ring (InTransitional old new members rest) = same_ring new ring

-- The stage is a regular configuration that was safe up to a lower number.
abbrev pub is_safe_below : {A : Type 0} → ℕ → Stage A → Bool
is_safe_below upto (InRegular at agreed safe) = nat_lt safe upto
is_safe_below upto (InTransitional old new members rest) = false

-- The output belongs to the stage: `Agreed` and `Safe` to the regular configuration of their ring, `Rest` to a
-- transitional one from its ring; the two kinds of configuration alternate; the number given is the message's own, and
-- safe numbers rise.
abbrev pub is_output_in_stage : {A : Type 0} → Out A → Stage A → Bool
is_output_in_stage (SendOut to frame) stage = true
is_output_in_stage (Agreed ring n x) stage = is_regular_of ring stage && (n == x.number)
is_output_in_stage (Safe ring upto) stage = is_regular_of ring stage && is_safe_below upto stage
is_output_in_stage (Trans old new set) stage = is_regular_of old stage
is_output_in_stage (Rest ring n x) stage = leaves ring stage && (n == x.number)
is_output_in_stage (Regular ring set) stage = leads_to ring stage

-- The effect of outputs

-- A stage with one more agreed message.
abbrev pub with_agreed_message : {A : Type 0} → Message A → Stage A → Stage A
with_agreed_message x (InRegular at agreed safe) = InRegular at (agreed ++ x ∷ []) safe
with_agreed_message x (InTransitional old new members rest) = InTransitional old new members rest

-- A stage that is safe up to this number.
abbrev pub with_safe_upto : {A : Type 0} → ℕ → Stage A → Stage A
with_safe_upto upto (InRegular at agreed safe) = InRegular at agreed upto
with_safe_upto upto (InTransitional old new members rest) = InTransitional old new members rest

-- A stage with one more message of the rest.
abbrev pub with_rest_message : {A : Type 0} → Message A → Stage A → Stage A
with_rest_message x (InRegular at agreed safe) = InRegular at agreed safe
with_rest_message x (InTransitional old new members rest) = InTransitional old new members (rest ++ x ∷ [])

-- A life: the present stage of a processor, and the earlier ones, newest first.
pub record Life (A : Type 0) : Type 0 where
  pub newest : Stage A
  pub earlier : List (Stage A)

-- A life after an output: a delivery is added to the newest stage, a configuration begins a new stage.
abbrev pub life_after_output : {A : Type 0} → Life A → Out A → Life A
life_after_output l (SendOut to frame) = l
life_after_output l (Agreed ring n x) = record l { newest = with_agreed_message x l.newest }
life_after_output l (Safe ring upto) = record l { newest = with_safe_upto upto l.newest }
life_after_output l (Trans old new set) = record { newest = InTransitional old new set []; earlier = l.newest ∷ l.earlier }
life_after_output l (Rest ring n x) = record l { newest = with_rest_message x l.newest }
life_after_output l (Regular ring set) = record { newest = InRegular (record { ring = ring; members = set }) [] 0; earlier = l.newest ∷ l.earlier }

-- A life after a list of outputs, in order.
abbrev pub life_after : {A : Type 0} → Life A → List (Out A) → Life A
life_after l [] = l
life_after l (o ∷ outs) = life_after (life_after_output l o) outs

-- Each output belongs to the stage in which it comes.
abbrev pub are_outputs_in_stages : {A : Type 0} → Life A → List (Out A) → Bool
are_outputs_in_stages l [] = true
are_outputs_in_stages l (o ∷ outs) = is_output_in_stage o l.newest && are_outputs_in_stages (life_after_output l o) outs

-- The output, if this processor gave it.
abbrev pub output_if_by : {A : Type 0} → ℕ → ℕ × Out A → Option (Out A)
output_if_by i p = if p.0 == i then Some p.1 else None

-- All outputs of a processor in a world, in order.
abbrev pub outs_of : {A : Type 0} → World A → ℕ → List (Out A)
outs_of w i = filter_map (output_if_by i) w.outs

-- The opening of a life: the regular configuration of only the processor itself.
abbrev pub life_opening : {A : Type 0} → ℕ → Life A
life_opening i = record { newest = InRegular (opening_ring i) [] 0; earlier = [] }

-- The life of a processor in a world.
abbrev pub life_of : {A : Type 0} → World A → ℕ → Life A
life_of w i = life_after (life_opening i) (outs_of w i)

-- The stages of a life, newest first.
abbrev pub stages_of : {A : Type 0} → Life A → List (Stage A)
stages_of l = l.newest ∷ l.earlier

-- Each output of a processor belongs to the stage in which it comes.
abbrev pub has_ordered_outputs : {A : Type 0} → World A → ℕ → Bool
has_ordered_outputs w i = are_outputs_in_stages (life_opening i) (outs_of w i)

-- The messages delivered in a stage: in a regular configuration those agreed and safe, in a transitional one the rest.
abbrev pub delivered_in : {A : Type 0} → Stage A → List (Message A)
delivered_in (InRegular at agreed safe) = filter (λ (x : Message _). nat_le x.number safe) agreed
delivered_in (InTransitional old new members rest) = rest
