-- Linearizability: when one order is a linearization of a history.
-- The replies are those of one object that applies the calls one after another in this order, and the order respects the
-- times at which calls were issued and replied.
-- Rules: Sessions 9 and 10
use Rattle.std.specs.Prelude.{◌≡◌, ℕ, ◌<◌, List, Some, slice_get}
use Rattle.ring_session.specs.Objects.{Sequential}
use Rattle.ring_core_spec.specs.Payloads.{Call}
use Rattle.ring_session.specs.Deduplicated.{IsCallAt, IsNumbered}
use Rattle.ring_session.specs.SessionAnswer.{IsReplyIn}
use Rattle.ring_node_spec.specs.declared.item.Item.{Item}
use Rattle.ring_node_spec.specs.declared.item.Item.TheVariants.{Issue, Reply}

-- the call was issued, with its operation, at place k of the history
abbrev pub IsIssuedAt : {A : Type 0} → List (Item A) → Call A → ℕ → Type 0
IsIssuedAt history c k = slice_get history k ≡ Some (Issue c)

-- the reply r to the call is at place k of the history
abbrev pub IsRepliedAt : {A : Type 0} → List (Item A) → Call A → List ℕ → ℕ → Type 0
IsRepliedAt history c r k = slice_get history k ≡ Some (Reply c r)

-- each of the calls was issued
abbrev pub AreCallsIssued : {A : Type 0} → List (Item A) → List (Call A) → Type 0
AreCallsIssued {A} history calls = (p : ℕ) (c : Call A) → IsCallAt calls p c → (k : ℕ) × IsIssuedAt history c k

-- The order is a linearization of the history. The object is given by its reply to an operation, its content after it,
-- and its initial content.
pub record IsLinearization {O A : Type 0} (object : Sequential O) (order : List (Call A)) (history : List (Item A)) : Type 0 where
  -- each client's calls are numbered 1, 2, .. in the order
  pub numbered : IsNumbered order
  -- each call of the order was issued, with its operation
  pub issued : AreCallsIssued history order
  -- each call that was replied is in the order, and the reply is the object's there
  pub reply_items : (k : ℕ) (c : Call A) (r : List ℕ) → IsRepliedAt history c r k → IsReplyIn object order c r
  -- a call that was replied before another was first issued comes earlier in the order
  pub ordered : (k : ℕ) (a b : Call A) (r : List ℕ) (q : ℕ) → IsRepliedAt history a r k → ((j : ℕ) → IsIssuedAt history b j → k < j) → IsCallAt order q b →
      (p : ℕ) × IsCallAt order p a × (p < q)
