-- A client's ports: the node of each by its place in the list, and no submit before.
use Rattle.std.proofs.Common.{◌≡◌, ℕ, ◌+◌, ◌-◌, ◌<◌, ◌≤◌, List, [], ◌∷◌, ◌++◌, length, slice_get, Some, ap, sym, subst, ◌∙◌, arith, ⊎_elim}
use Rattle.std.proofs.Math.Nat.{mod-lt}
use Rattle.ring_base.proofs.ListPlaces.{get-push}
use Rattle.ring_host_port.specs.Clients.{node_after}

-- The node after `passed` others is one of the nodes.
pub node_after-le : (nodes first passed : ℕ) → 0 < nodes → node_after nodes first passed ≤ nodes
node_after-le nodes first passed some = let below = mod-lt (first - 1 + passed) some in omega (arith, below)

module _ {P V : Type 0} (value_of : P → V) (wanted : ℕ → V) where
  -- Each port has the wanted value at its place.
  abbrev pub AreAsWanted : List P → Type 0
  AreAsWanted ports = (k : ℕ) (port : P) → slice_get ports k ≡ Some port → value_of port ≡ wanted k

  pub AreAsWanted-push : (ports : List P) {more : List P} {port : P} {place : ℕ} → more ≡ ports ++ port ∷ [] → length ports ≡ place
      → value_of port ≡ wanted place → AreAsWanted ports → AreAsWanted more
  AreAsWanted-push ports {more} {port} {place} put long to old k p at =
      let is_last : (k ≡ length ports) × (port ≡ p) → value_of p ≡ wanted k = λ last. ap value_of (sym last.1) ∙ to ∙ ap wanted (sym (last.0 ∙ long)) in
      ⊎_elim (λ before. old k p before) is_last (get-push ports port k p (subst (λ xs. slice_get xs k ≡ Some p) put at))
