-- The one order of a group of nodes, and the facts about each step of a run that keep it one.
-- Rules: Sessions 6, 10 and 11
use Rattle.std.specs.Prelude.{◌≡◌, ℕ, List, [], ◌∷◌, ◌++◌, All, Some, slice_get, replicate, ◌⊎◌}
use Rattle.ring_base.specs.Prefixes.{IsListPrefix}
use Rattle.ring_session.specs.Objects.{Sequential}
use Rattle.ring_core_spec.specs.Payloads.{Call}
use Rattle.ring_session.specs.declared.answer.Answer.{Answer}
use Rattle.ring_session.specs.Deduplicated.{deduplicated, IsCallAt}
use Rattle.ring_session.specs.SessionAnswer.{reply_of_answer, session_answer}
pub use Rattle.ring_log.specs.EpochHistories.{longer_list}
use Rattle.ring_node_spec.specs.declared.item.Item.{Item}
use Rattle.ring_node_spec.specs.declared.item.Item.TheVariants.{Issue, Reply}
use Rattle.ring_node_spec.specs.Histories.{AreCallsIssued}

-- the order: the longest of the nodes' committed logs, each with only the calls that take effect
abbrev pub order_of : {A : Type 0} → List (List (Call A)) → List (Call A)
order_of [] = []
order_of (calls ∷ rest) = longer_list (deduplicated calls) (order_of rest)

-- A run as seen at one moment.
pub record Moment (A : Type 0) : Type 0 where
  -- each node's committed calls
  pub committed : List (List (Call A))
  -- the calls issued and the replies given so far
  pub history : List (Item A)

-- each node's committed calls are a prefix of its committed calls afterwards
abbrev pub EachCommittedLogGrows : {A : Type 0} → List (List (Call A)) → List (List (Call A)) → Type 0
EachCommittedLogGrows [] [] = Unit {0}
EachCommittedLogGrows (calls ∷ rest) (more ∷ others) = IsListPrefix calls more × EachCommittedLogGrows rest others
EachCommittedLogGrows [] (more ∷ others) = ⊥
EachCommittedLogGrows (calls ∷ rest) [] = ⊥

-- all nodes' committed calls are prefixes of one list
abbrev pub ArePrefixesOfOneLog : {A : Type 0} → List (List (Call A)) → Type 0
ArePrefixesOfOneLog {A} committed = (log : List (Call A)) × All (λ calls. IsListPrefix calls log) committed

module _ {O : Type 0} (object : Sequential O) where
  -- The call was replied at a node: the session table's answer at a place of the node's committed calls has this reply.
  pub record IsReplyReportedAt {A : Type 0} (committed : List (List (Call A))) (c : Call A) (r : List ℕ) : Type 0 where
    pub node : ℕ
    pub calls : List (Call A)
    pub committed_there : slice_get committed node ≡ Some calls
    pub place : ℕ
    pub stands : IsCallAt calls place c
    pub answer : Answer
    pub answered : session_answer object calls place ≡ Some answer
    pub brings : reply_of_answer answer ≡ Some r

  -- the item is a reply that some node gave
  abbrev pub IsReplyGiven : {A : Type 0} → List (List (Call A)) → Item A → Type 0
  IsReplyGiven committed (Issue c) = ⊥
  IsReplyGiven committed (Reply c r) = IsReplyReportedAt committed c r

  -- the additions of a step to the history: an issued call, or any number of replies to committed calls
  abbrev pub IsHistoryAddition : {A : Type 0} → List (List (Call A)) → List (Item A) → Type 0
  IsHistoryAddition {A} committed items = ((c : Call A) × (items ≡ Issue c ∷ [])) ⊎ All (IsReplyGiven committed) items

  -- The guarantees of each step of a run, which are all that its order rests on.
  pub record IsOrderStep {A : Type 0} (before after : Moment A) : Type 0 where
    -- no node retracts or reorders its committed calls
    pub grows : EachCommittedLogGrows before.committed after.committed
    -- no two nodes committed different calls at one place
    pub agrees : ArePrefixesOfOneLog after.committed
    -- only issued calls are committed
    pub issued : All (AreCallsIssued after.history) after.committed
    -- clients see an issue, or replies by the session table
    pub added : (items : List (Item A)) × (before.history ++ items ≡ after.history) × IsHistoryAddition after.committed items

  -- each moment follows from the one before it by such a step
  abbrev pub IsOrderRun : {A : Type 0} → Moment A → List (Moment A) → Type 0
  IsOrderRun moment [] = Unit {0}
  IsOrderRun moment (after ∷ rest) = IsOrderStep moment after × IsOrderRun after rest

-- the last moment of a run
abbrev pub last_moment : {A : Type 0} → Moment A → List (Moment A) → Moment A
last_moment moment [] = moment
last_moment moment (after ∷ rest) = last_moment after rest

-- the moment at which each of n nodes has committed nothing, and nothing was issued
abbrev pub opening : {A : Type 0} → ℕ → Moment A
opening n = record { committed = replicate n []; history = [] }
