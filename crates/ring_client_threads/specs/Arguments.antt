-- The arguments of a run of callers, and its refusals.
-- Rules: The book and the threads 28; Refusals 1 and 4
use Rattle.std.specs.Prelude.{◌≢◌, ℕ, ◌*◌, ◌≤◌, List, All, AllPairs, length}
use Rattle.ring_base.specs.declared.fault.Fault.{Fault}
use Rattle.ring_base.specs.declared.fault.Fault.TheVariants.{NotMember, Stopped, Memory}

-- The number of a node, in a group of `count` nodes.
abbrev pub IsNode : ℕ → ℕ → Type 0
IsNode count number = (1 ≤ number) × (number ≤ count)

-- No number is in the list twice.
abbrev pub AreDistinct : List ℕ → Type 0
AreDistinct numbers = AllPairs (λ a b. a ≢ b) numbers

-- The group's number of nodes, each caller's first node, the numbers of the nodes to stop, and the callers.
module _ {C : Type 0} (count : ℕ) (first : C → ℕ) (stopped : List ℕ) (callers : List C) where
  -- All these nodes are of the group, and the callers have at most 256 ports together, each one to each node.
  pub record AreOfGroup : Type 0 where
    pub stops : All (IsNode count) stopped
    pub firsts : All (λ caller. IsNode count (first caller)) callers
    pub ports : length callers * count ≤ 256

  -- A run may begin with these arguments.
  abbrev pub MayRun : Type 0
  MayRun = AreOfGroup × AreDistinct stopped

  -- The reason why a run is refused.
  abbrev pub IsRefused : Fault → Type 0
  IsRefused NotMember = ¬ AreOfGroup
  IsRefused Stopped = AreOfGroup × ¬ AreDistinct stopped
  IsRefused Memory = MayRun
  IsRefused _ = ⊥
