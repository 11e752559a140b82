-- Gather: the two sets of a node, the joins that it hears, agreement, giving up, consensus, and the proposer.
-- Rules: Gather 1 to 10
use Rattle.std.specs.Prelude.{◌≡◌, ℕ, suc, max, Bool, ◌&&◌, ◌||◌, ◌==◌, nat_le, ◌≤◌, if◌then◌else◌, ◌⊎◌, List, [], ◌∷◌, map}
use Rattle.std.specs.List.{AllByRecursion, Any}
use Rattle.ring_wire.specs.Base.{max_number, greatest, IsMember, nobody, only, has, within, union, less, smallest}
use Rattle.ring_wire.specs.declared.join.Join.{Join}
pub use Rattle.ring_join.specs.declared.join_effect.JoinEffect.{JoinEffect}
pub use Rattle.ring_join.specs.declared.join_effect.JoinEffect.TheVariants.{Ignored, Agrees, Merges}

-- The sets of a node in Gather, and the joins with exactly these sets that it heard since agreement last fell back.
pub record Gathering : Type 0 where
  pub proc_set : ℕ
  pub fail_set : ℕ
  pub counted_joins : List Join

-- Gather 1: on entering, nobody is given up, and only the node itself agrees.
abbrev pub gathering_opening : ℕ → Gathering
gathering_opening proc_set = record { proc_set = proc_set; fail_set = nobody; counted_joins = [] }

-- Gather 2: the own join has the floor and the own sets.
abbrev pub own_join : ℕ → ℕ → Gathering → Join
own_join me floor g = record { sender = me; number = floor; proc_set = g.proc_set; fail_set = g.fail_set }

-- Hearing

-- Whether both sets of the join equal the node's own.
abbrev pub has_same_sets : Gathering → Join → Bool
has_same_sets g j = (j.proc_set == g.proc_set) && (j.fail_set == g.fail_set)

-- Whether both sets of the join are subsets of the node's own.
abbrev pub has_smaller_sets : Gathering → Join → Bool
has_smaller_sets g j = within j.proc_set g.proc_set && within j.fail_set g.fail_set

-- Whether the join's sender is the node itself, or a processor that it has given up.
abbrev pub is_own_or_failed : ℕ → Gathering → Join → Bool
is_own_or_failed me g j = (j.sender == me) || has g.fail_set j.sender

-- Gather 4: a join with the node's own sets agrees, one with subsets of them is ignored, and any other widens them.
abbrev pub join_effect : ℕ → Gathering → Join → JoinEffect
join_effect me g j = if is_own_or_failed me g j then Ignored else if has_same_sets g j then Agrees else if has_smaller_sets g j then Ignored else Merges

-- Gather 3: the sender agrees, and the number of its join is counted.
abbrev pub with_agreement : Gathering → Join → Gathering
with_agreement g j = record g { counted_joins = j ∷ g.counted_joins }

-- Gather 5: a sender that has given up this node is given up; otherwise the processors that it has given up are.
abbrev pub merged_fail_set : ℕ → Gathering → Join → ℕ
merged_fail_set me g j = if has j.fail_set me then union g.fail_set (only j.sender) else union g.fail_set j.fail_set

-- Gather 5: the sets are widened, and agreement falls back to the node itself.
abbrev pub sets_merged : ℕ → Gathering → Join → Gathering
sets_merged me g j = record { proc_set = union g.proc_set j.proc_set; fail_set = merged_fail_set me g j; counted_joins = [] }

-- Gather 5: if the join has exactly the widened sets, its sender agrees.
abbrev pub agreed_if_same : Gathering → Join → Gathering
agreed_if_same g j = if has_same_sets g j then with_agreement g j else g

-- Gather 5 as a whole: the gathering after a join that widens the sets.
abbrev pub join_merged : ℕ → Gathering → Join → Gathering
join_merged me g j = agreed_if_same (sets_merged me g j) j

-- Gather 4 and 5: the gathering after a join is heard.
abbrev pub gathering_after_join : JoinEffect → ℕ → Gathering → Join → Gathering
gathering_after_join Ignored me g j = g
gathering_after_join Agrees me g j = with_agreement g j
gathering_after_join Merges me g j = join_merged me g j

-- Agreeing

-- The senders of these joins.
abbrev pub senders_of_joins : List Join → ℕ
senders_of_joins [] = nobody
senders_of_joins (j ∷ js) = union (only j.sender) (senders_of_joins js)

-- Gather 3: the processors that agree: the node itself, and those whose joins have its sets.
abbrev pub agreeing : ℕ → Gathering → ℕ
agreeing me g = union (only me) (senders_of_joins g.counted_joins)

-- The processors of `proc_set` that are not given up.
abbrev pub candidates : Gathering → ℕ
candidates g = less g.proc_set g.fail_set

-- Gather 9: whether all candidates agree.
abbrev pub has_consensus : ℕ → Gathering → Bool
has_consensus me g = within (candidates g) (agreeing me g)

-- Gather 6: the candidates that don't agree are given up, and agreement falls back to the node itself.
abbrev pub silent_given_up : ℕ → Gathering → Gathering
silent_given_up me g = record g { fail_set = union g.fail_set (less (candidates g) (agreeing me g)); counted_joins = [] }

-- The join has exactly the node's sets.
pub record HasOwnSets (g : Gathering) (j : Join) : Type 0 where
  pub proc_set : j.proc_set ≡ g.proc_set
  pub fail_set : j.fail_set ≡ g.fail_set

-- The processor agrees: it is the node, or it sent a counted join with exactly the node's sets.
abbrev pub IsAgreeing : ℕ → Gathering → ℕ → Type 0
IsAgreeing me g i = (i ≡ me) ⊎ Any (λ j. (j.sender ≡ i) × HasOwnSets g j) g.counted_joins

-- Gather 9: consensus: each processor that is not given up agrees.
abbrev pub HasConsensus : ℕ → Gathering → Type 0
HasConsensus me g = (i : ℕ) → IsMember (candidates g) i → IsAgreeing me g i

-- Each counted join has exactly the node's sets.
abbrev pub AllHaveOwnSets : Gathering → Type 0
AllHaveOwnSets g = AllByRecursion (HasOwnSets g) g.counted_joins

-- Each counted join is from a processor.
abbrev pub AllAreProcs : Gathering → Type 0
AllAreProcs g = AllByRecursion (λ (j : Join). 1 ≤ j.sender) g.counted_joins

-- Proposing

-- The greatest ring number that the node knows: its floor, or the greatest counted number.
abbrev pub greatest_known : ℕ → Gathering → ℕ
greatest_known floor g = max floor (greatest (map (λ (j : Join). j.number) g.counted_joins))

-- Gather 10: the number of a new ring is one more than that.
abbrev pub new_number : ℕ → Gathering → ℕ
new_number floor g = suc (greatest_known floor g)

-- Gather 10: with consensus the smallest candidate proposes, if the new number is at most `MAX`.
abbrev pub may_propose : ℕ → ℕ → Gathering → Bool
may_propose me floor g = has_consensus me g && (smallest (candidates g) == me) && nat_le (new_number floor g) max_number
