-- Membership in a list of facts. Such lists only grow, so an item of one stays an item.
-- Rules: Rings and states 3
use Rattle.std.specs.Prelude.{◌⊎◌, List, [], ◌∷◌}
pub use Rattle.ring_base.specs.ListMembership.{IsIn}

-- Some item of the list satisfies P.
abbrev pub SomeIs : {X : Type 0} → (X → Type 0) → List X → Type 0
SomeIs P [] = ⊥
SomeIs P (x ∷ xs) = P x ⊎ SomeIs P xs
