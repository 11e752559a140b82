-- Whether a run is legal.
use Rattle.std.proofs.Common.{◌≡◌, ℕ, ◌+◌, ◌<◌, ◌≤◌, ◌⊎◌, inl, inr, ◌↔◌, IsTrue, Bool, true, false, List, sym, subst, ◌∙◌, arith}
use Rattle.std.proofs.lemmas.Bool.{cases_lt}
use Rattle.ring_object.specs.Operations.{Sequential}
use Rattle.ring_payload.specs.declared.call.Call.{Call}
use Rattle.ring_node_spec.specs.declared.item.Item.{Item}
use Rattle.ring_node_spec.specs.Histories.{IsLinearization}
use Rattle.ring_node_spec.specs.Worlds.{order}
use Rattle.ring_console.specs.Worlds.{WorldView, world_of}
use Rattle.ring_sweep.specs.Legal.{IsLegal, ArePrefixes}

-- It holds of each number from 1 up to this one.
abbrev pub UpTo : (ℕ → Type 0) → ℕ → Type 0
UpTo P k = (node : ℕ) → 1 ≤ node → node ≤ k → P node

at_last : (P : ℕ → Type 0) (k node : ℕ) → UpTo P k → P (k + 1) → 1 ≤ node → node ≤ k + 1 → (node < k + 1) ⊎ (k + 1 ≤ node) → P node
at_last P k node h here one most (inl below) = h node one (omega (arith, below))
at_last P k node h here one most (inr last) = let same : k + 1 ≡ node = omega (arith, most, last) in subst P same here

-- One more number.
pub up_next : (P : ℕ → Type 0) (k : ℕ) → UpTo P k → P (k + 1) → UpTo P (k + 1)
up_next P k h here node one most = at_last P k node h here one most (cases_lt node (k + 1))

module _ {O A : Type 0} (object : Sequential O) (p : WorldView A) (calls : List (Call A)) (items : List (Item A))
    (is_order : calls ≡ order (world_of object p)) (is_history : items ≡ (world_of object p).history) (e : Bool)
    (explains : IsTrue e ↔ IsLinearization object calls items) where
  -- The order is not legal for the history.
  pub legal_no : e ≡ false → IsTrue false ↔ IsLegal object p
  legal_no untrue = (
    λ untrue. absurd (cc (untrue)),
    λ legal. sym untrue
        ∙ explains.1 (subst (λ (os : List (Call A)). IsLinearization object os items) (sym is_order)
        (subst (λ (xs : List (Item A)). IsLinearization object (order (world_of object p)) xs) (sym is_history) legal.explains)),
  )

  -- The order is legal for the history.
  pub legal_is : (f : Bool) → e ≡ true → (IsTrue f ↔ ArePrefixes object p calls) → IsTrue f ↔ IsLegal object p
  legal_is f true_is fronts = (
    λ are. record {
      explains = subst (λ (os : List (Call A)). IsLinearization object os (world_of object p).history) is_order
          (subst (λ (xs : List (Item A)). IsLinearization object calls xs) is_history (explains.0 true_is));
      fronts = subst (λ (os : List (Call A)). ArePrefixes object p os) is_order (fronts.0 are);
    },
    λ legal. fronts.1 (subst (λ (os : List (Call A)). ArePrefixes object p os) (sym is_order) legal.fronts),
  )
