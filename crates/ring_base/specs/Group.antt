-- The group's configuration, fixed for a run, and the sets of processors that are primary in it.
-- Rules: Processors and sets 1 and 4
use Rattle.std.specs.Prelude.{ℕ, ◌-◌, ◌*◌, ◌≡◌, ◌<◌, ◌≤◌, Bool, nat_lt, ◌&&◌, List, ◌++◌, length, take, replicate, slice_index, All}
use Rattle.std.specs.List.{sum, sum_by}
use Rattle.ring_base.specs.Processors.{max_processors, IsProc, IsMember, within, everybody, elements}

-- a configuration: the processors 1 to `count`, and their votes in order
pub record Group : Type 0 where
  pub count : ℕ
  pub votes : List ℕ

-- valid votes: 1 to 16 of them, each at least 1
pub record AreVotes (votes : List ℕ) : Type 0 where
  pub processors : IsProc (length votes)
  pub each : All (λ vote. 1 ≤ vote) votes

-- the number is a processor of the group: 1 to `count`
abbrev pub IsInGroup : Group → ℕ → Type 0
IsInGroup group number = (1 ≤ number) × (number ≤ group.count)

-- the votes of processor i
abbrev pub votes_of : Group → ℕ → ℕ
votes_of group i = slice_index group.votes (i - 1)

-- the sum of the votes of a set's members
abbrev pub votes_in : Group → ℕ → ℕ
votes_in group set = sum_by (votes_of group) (elements set)

-- the set is primary: its members belong to the group, and twice their votes is more than all votes
pub record IsPrimary (group : Group) (set : ℕ) : Type 0 where
  pub within : (i : ℕ) → IsMember set i → i ≤ group.count
  pub majority : sum group.votes < 2 * votes_in group set

-- whether the set is primary, as a test
abbrev pub is_primary : Group → ℕ → Bool
is_primary group set = within set (everybody group.count) && nat_lt (sum group.votes) (2 * votes_in group set)

-- any two primary sets share a processor
abbrev pub PrimariesMeet : Type 0
PrimariesMeet = (group : Group) (a b : ℕ) → IsPrimary group a → IsPrimary group b → (i : ℕ) × (i ≤ group.count) × IsMember a i × IsMember b i

-- the votes, followed by zeros up to a length of 16
abbrev pub padded_votes : List ℕ → List ℕ
padded_votes votes = votes ++ replicate (max_processors - length votes) 0

-- the list of 16 has the votes of `count` processors, followed by zeros
pub record IsPaddedVotes (count : ℕ) (places : List ℕ) : Type 0 where
  pub processors : IsProc count
  pub whole : length (take count places) ≡ count
  pub zeros : padded_votes (take count places) ≡ places
