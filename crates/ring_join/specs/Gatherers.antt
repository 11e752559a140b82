-- A node in Gather as contracts see it, and the summary that its code keeps of the joins heard.
-- Rules: Gather 2, 3 and 14
use Rattle.std.specs.Prelude.{◌≡◌, ℕ, List, map}
use Rattle.ring_wire.specs.Base.{greatest}
use Rattle.ring_wire.specs.declared.join.Join.{Join}
use Rattle.ring_join.specs.Gathering.{Gathering, senders_of_joins, AllHaveOwnSets, AllAreProcs}

-- A gathering node: its number, the floor that its joins carry, and its sets and counted joins.
pub record Gatherer : Type 0 where
  pub me : ℕ
  pub floor : ℕ
  pub gathering : Gathering

-- The gathering with these sets and counted joins.
abbrev pub gathering_of : ℕ → ℕ → List Join → Gathering
gathering_of proc_set fail_set counted_joins = record { proc_set = proc_set; fail_set = fail_set; counted_joins = counted_joins }

-- The summary of the counted joins: their senders and their greatest number. Each join has exactly the node's sets, and
-- its sender is a processor.
pub record HasJoinCounts (g : Gathering) (join_senders greatest_counted : ℕ) : Type 0 where
  pub senders_are : join_senders ≡ senders_of_joins g.counted_joins
  pub greatest_is : greatest_counted ≡ greatest (map (λ (j : Join). j.number) g.counted_joins)
  pub say_same : AllHaveOwnSets g
  pub are_procs : AllAreProcs g

-- The two gatherings have the same sets.
abbrev pub HasSetsOf : Gathering → Gathering → Type 0
HasSetsOf a b = (a.proc_set ≡ b.proc_set) × (a.fail_set ≡ b.fail_set)
