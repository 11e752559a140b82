-- The groups that a cut splits the nodes into: GROUP GROUP.. of a line `cut`.
-- Formats: Scripts
use Rattle.std.specs.Prelude.{◌≡◌, ℕ, ◌+◌, ◌-◌, Bool, true, nat_le, ◌&&◌, ◌==◌, if◌then◌else◌, List, [], ◌∷◌, length}
use Rattle.std.specs.Prelude.{replicate, slice_set, Contains, Option, Some, None}
use Rattle.ring_base.specs.Group.{Group}
use Rattle.ring_base.specs.Processors.{IsMember, max_processors, has, nobody, only, everybody, union, intersection, less}
use Rattle.ring_script.specs.Numbers.{node_of}
use Rattle.ring_script.specs.Reading.{◌>>=◌}
use Rattle.ring_script.specs.Words.{pieces}

-- Adds the nodes with these numbers to the set: None if a number is that of no node, or its node is already in the set.
unfoldable pub member_set : Group → ℕ → List (List ℕ) → Option ℕ
member_set nodes set [] = Some set
member_set nodes set (number ∷ numbers) = do
  node ← node_of nodes number
  if has set node then None else member_set nodes (union set (only node)) numbers

-- The set that the word denotes: node numbers separated by single commas.
unfoldable pub parse_group : Group → List ℕ → Option ℕ
parse_group nodes word = member_set nodes nobody (pieces 44 word)

-- One of these words is the node's number.
abbrev pub HasNumber : Group → List (List ℕ) → ℕ → Type 0
HasNumber nodes numbers node = (number : List ℕ) × Contains numbers number × (node_of nodes number ≡ Some node)

-- The word lists the number of the node, among numbers separated by single commas.
abbrev pub Names : Group → List ℕ → ℕ → Type 0
Names nodes word node = HasNumber nodes (pieces 44 word) node

-- The sets that the words denote.
unfoldable pub groups_of : Group → List (List ℕ) → Option (List ℕ)
groups_of nodes [] = Some []
groups_of nodes (word ∷ words) = do
  group ← parse_group nodes word
  others ← groups_of nodes words
  Some (group ∷ others)

-- The union of the groups.
unfoldable pub union_of_groups : List ℕ → ℕ
union_of_groups [] = nobody
union_of_groups (group ∷ groups) = union group (union_of_groups groups)

-- Whether no two groups share a node.
unfoldable pub are_apart : List ℕ → Bool
are_apart [] = true
are_apart (group ∷ groups) = (intersection group (union_of_groups groups) == nobody) && are_apart groups

-- Whether the groups are a cut: at least two of them, with every node in exactly one.
abbrev pub is_cut : Group → List ℕ → Bool
is_cut nodes groups = nat_le 2 (length groups) && are_apart groups && (union_of_groups groups == everybody nodes.count)

-- One of the groups has both nodes.
abbrev pub AreConnected : List ℕ → ℕ → ℕ → Type 0
AreConnected groups a b = (group : ℕ) × Contains groups group × IsMember group a × IsMember group b

-- The table of groups from processor i on, with this group entered for each of its members.
unfoldable pub placed_from : ℕ → ℕ → List ℕ → List ℕ
placed_from i group [] = []
placed_from i group (kept ∷ others) = (if has group i then group else kept) ∷ placed_from (i + 1) group others

-- The table after these groups are entered in it, one after another.
unfoldable pub table_after : List ℕ → List ℕ → List ℕ
table_after table [] = table
table_after table (group ∷ groups) = table_after (placed_from 1 group table) groups

-- The group of each processor, or nobody if it is in none.
abbrev pub table_of : List ℕ → List ℕ
table_of groups = table_after (replicate max_processors nobody) groups

-- The group of each processor if one processor is cut off from all others.
abbrev pub isolation : ℕ → List ℕ
isolation node = slice_set (replicate max_processors (less (everybody max_processors) (only node))) (node - 1) (only node)

-- The cut that all the words denote, as the group of each processor.
unfoldable pub cut_at : Group → List (List ℕ) → Option (List ℕ × List (List ℕ))
cut_at nodes words = do
  groups ← groups_of nodes words
  if is_cut nodes groups then Some (table_of groups, []) else None
