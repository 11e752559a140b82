-- The outputs of an installation, part by part.
-- Rules: Outputs 1 and 5
use Rattle.std.specs.Prelude.{List, [], ◌∷◌, ◌++◌, map}
use Rattle.ring_recover.specs.Deliveries.{rest_messages}
use Rattle.ring_core_spec.specs.declared.out.Out.{Out}
use Rattle.ring_core_spec.specs.declared.out.Out.TheVariants.{Trans, Rest, Regular}
use Rattle.ring_core_spec.specs.State.{Core}
use Rattle.ring_core_spec.specs.Views.{plan}
use Rattle.ring_core_spec.specs.Giving.{installation_outputs}

-- All outputs of an installation.
unfoldable pub all_installation_outputs : {A : Type 0} → Core A → List (Out A)
all_installation_outputs c = installation_outputs c

-- The two configurations, with the rest of the old ring between them.
unfoldable pub change_outputs : {A : Type 0} → Core A → List (Out A)
change_outputs c = Trans c.installed.ring c.running.ring (plan c).transitional_members ∷ (map (λ x. Rest x.ring x.number x) (rest_messages (plan c) c.held)
    ++ Regular c.running.ring c.running.members ∷ [])
