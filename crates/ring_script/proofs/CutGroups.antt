-- The nodes that a cut keeps together: the group kept for a processor is the only one that it is in.
use Rattle.std.proofs.Common.{◌≡◌, ◌⊎◌, ℕ, zero, suc, ◌+◌, ◌-◌, ◌<◌, ◌≤◌, true, List, [], ◌∷◌, length, get_or}
use Rattle.std.proofs.Common.{replicate, Some, None, refl, ap, sym, ◌∙◌, inl, inr, arith}
use Rattle.std.specs.Prelude.{◌↔◌, ◌&&◌, ◌==◌, nat_le, if◌then◌else◌, Contains, IfSome, slice_index}
use Rattle.std.proofs.lemmas.Bool.{and_parts, cases_Bool, eqb-true}
use Rattle.std.proofs.lemmas.Grind.{common_steps}
use Rattle.std.proofs.lemmas.List.{get_or-replicate}
use Rattle.std.proofs.lemmas.Option.{option_and_then_some}
use Rattle.ring_base.specs.Group.{Group}
use Rattle.ring_base.specs.Members.{has_member, member_had, nobody_member, only_members, everybody_members, union_members, intersection_members}
use Rattle.ring_base.specs.Processors.{IsProc, IsMember, max_processors, has, nobody, only, everybody, union, intersection}
use Rattle.ring_script.specs.Cuts.{AreConnected, HasNumber, Names, member_set, parse_group, groups_of, union_of_groups, are_apart}
use Rattle.ring_script.specs.Cuts.{is_cut, placed_from, table_after, table_of, cut_at}
use Rattle.ring_script.specs.Numbers.{node_of}
use Rattle.ring_script.specs.Reading.{◌>>=◌}
use Rattle.ring_script.specs.Words.{pieces}

-- ---- the elements of a list.

Contains-cons : {X : Type 0} (first : X) (others : List X) (x : X) → Contains others x → Contains (first ∷ others) x
Contains-cons first others x found = (suc found.0, omega (arith, found.1), found.2)

Contains-cons_cases : {X : Type 0} (first : X) (others : List X) (x : X) → Contains (first ∷ others) x → (first ≡ x) ⊎ Contains others x
Contains-cons_cases {X} first others x found = at_place found.0 found.1 found.2
  where
    at_place : (k : ℕ) → k < length (first ∷ others) → get_or (first ∷ others) k x ≡ x → (first ≡ x) ⊎ Contains others x
    at_place zero inside is = inl is
    at_place (suc k) inside is = inr (k, omega arith, is)

-- ---- the nodes of some groups.

-- A node of the groups is in one of them.
in_one : (groups : List ℕ) (a : ℕ) → IsMember (union_of_groups groups) a → AreConnected groups a a
unfolding union_of_groups
in_one [] a m = absurd (nobody_member a m)
in_one (group ∷ groups) a m =
    elim ((union_members group (union_of_groups groups) a).0 m) [
      | inl here ↦ (group, (0, omega arith, refl), here, here)
      | inr later ↦ let one = in_one groups a later in (one.0, Contains-cons group groups one.0 one.1, one.2, one.3)
    ]

-- A node of one of the groups is one of theirs.
in_all : (groups : List ℕ) (a group : ℕ) → Contains groups group → IsMember group a → IsMember (union_of_groups groups) a
unfolding union_of_groups
in_all [] a group found m = absurd (omega (arith, found.1))
in_all (first ∷ groups) a group found m =
    elim (Contains-cons_cases first groups group found) [
      | inl is ↦ (union_members first (union_of_groups groups) a).1 (inl (rw is m))
      | inr later ↦ (union_members first (union_of_groups groups) a).1 (inr (in_all groups a group later m))
    ]

-- If a first group shares no node with the others, its nodes are in none of them.
in_no_other : (group : ℕ) (groups : List ℕ) (a : ℕ) → (intersection group (union_of_groups groups) == nobody) ≡ true → IsMember group a → IsMember (union_of_groups groups) a → ⊥
in_no_other group groups a isolation m n =
    let none : intersection group (union_of_groups groups) ≡ nobody = eqb-true _ _ isolation in
    nobody_member a (rw none at ((intersection_members group (union_of_groups groups) a).1 (m, n)))

-- No two of the groups have one node.
in_just_one : (groups : List ℕ) (a one other : ℕ) → are_apart groups ≡ true → Contains groups one
    → Contains groups other → IsMember one a → IsMember other a → one ≡ other
unfolding are_apart
in_just_one [] a one other isolation found there m n = absurd (omega (arith, found.1))
in_just_one (group ∷ groups) a one other isolation found there m n =
    let parts = and_parts (intersection group (union_of_groups groups) == nobody) (are_apart groups) isolation in
    elim (Contains-cons_cases group groups one found) [
      | inl is ↦ elim (Contains-cons_cases group groups other there) [
        | inl same ↦ sym is ∙ same
        | inr later ↦ absurd (in_no_other group groups a parts.0 (rw is m) (in_all groups a other later n))
      ]
      | inr later ↦ elim (Contains-cons_cases group groups other there) [
        | inl same ↦ absurd (in_no_other group groups a parts.0 (rw same n) (in_all groups a one later m))
        | inr beside ↦ in_just_one groups a one other parts.1 later beside m n
      ]
    ]

-- ---- the group of a processor, once some were placed one after the other.

length-placed_from : (group i : ℕ) (kept : List ℕ) → length (placed_from i group kept) ≡ length kept
unfolding placed_from
length-placed_from group i [] = refl
length-placed_from group i (x ∷ kept) = let rest = length-placed_from group (i + 1) kept in omega arith

get_or-placed_from : (group i k : ℕ) (kept : List ℕ) → k < length kept → get_or (placed_from i group kept) k 0
    ≡ (if has group (i + k) then group else get_or kept k 0)
unfolding placed_from
get_or-placed_from group i k [] lt = absurd (omega arith)
get_or-placed_from group i zero (x ∷ kept) lt = let here : i + 0 ≡ i = omega arith in rw here refl
get_or-placed_from group i (suc k) (x ∷ kept) lt = let later : i + suc k ≡ i + 1 + k = omega arith in rw later
    (get_or-placed_from group (i + 1) k kept (omega arith))

-- A group becomes that of a processor of its own, and of no other.
placed_own : (group : ℕ) (table : List ℕ) (a : ℕ) → a ≤ length table → IsMember group a → get_or (placed_from 1 group table) (a - 1) 0 ≡ group
placed_own group table a le m =
    let place : 1 + (a - 1) ≡ a = omega (arith, m.0) in
    let own : has group (1 + (a - 1)) ≡ true = rw place (has_member group a m) in
    get_or-placed_from group 1 (a - 1) table (omega (arith, m.0)) ∙ rw own refl

placed_other : (group : ℕ) (table : List ℕ) (a : ℕ) → 1 ≤ a → a ≤ length table → (IsMember group a → ⊥)
    → get_or (placed_from 1 group table) (a - 1) 0 ≡ get_or table (a - 1) 0
placed_other group table a low le out =
    let place : 1 + (a - 1) ≡ a = omega arith in
    elim (cases_Bool (has group (1 + (a - 1)))) [
      | inl own ↦ absurd (out (member_had group a low (rw place at own)))
      | inr other ↦ get_or-placed_from group 1 (a - 1) table (omega arith) ∙ rw other refl
    ]

-- The group of a processor that is in none of those placed stays.
table_after-other : (groups table : List ℕ) (a : ℕ) → 1 ≤ a → a ≤ length table → (IsMember (union_of_groups groups) a → ⊥)
    → get_or (table_after table groups) (a - 1) 0 ≡ get_or table (a - 1) 0
unfolding union_of_groups table_after
table_after-other [] table a low le out = refl
table_after-other (group ∷ groups) table a low le out =
    table_after-other groups (placed_from 1 group table) a low (rw length-placed_from le) (λ m. out ((union_members group (union_of_groups groups) a).1 (inr m))) ∙
    placed_other group table a low le (λ m. out ((union_members group (union_of_groups groups) a).1 (inl m)))

-- The group of a processor is the one placed that it is in.
table_after-own : (groups table : List ℕ) (a group : ℕ) → a ≤ length table → are_apart groups ≡ true
    → Contains groups group → IsMember group a → get_or (table_after table groups) (a - 1) 0 ≡ group
unfolding are_apart table_after
table_after-own [] table a group le isolation found m = absurd (omega (arith, found.1))
table_after-own (first ∷ groups) table a group le isolation found m =
    let parts = and_parts (intersection first (union_of_groups groups) == nobody) (are_apart groups) isolation in
    let long : a ≤ length (placed_from 1 first table) = rw length-placed_from le in
    elim (Contains-cons_cases first groups group found) [
      | inl is ↦
          let own : IsMember first a = rw is m in
          table_after-other groups (placed_from 1 first table) a m.0 long (in_no_other first groups a parts.0 own) ∙ placed_own first table a le own ∙ is
      | inr later ↦ table_after-own groups (placed_from 1 first table) a group long parts.1 later m
    ]

-- ---- under a cut.

-- The facts that the test of a cut gives.
apart_by : (nodes : Group) (groups : List ℕ) → is_cut nodes groups ≡ true → are_apart groups ≡ true
apart_by nodes groups cut = (and_parts (nat_le 2 (length groups)) (are_apart groups)
    (and_parts (nat_le 2 (length groups) && are_apart groups) (union_of_groups groups == everybody nodes.count) cut).0).1

together_by : (nodes : Group) (groups : List ℕ) → is_cut nodes groups ≡ true → union_of_groups groups ≡ everybody nodes.count
together_by nodes groups cut = eqb-true _ _ (and_parts (nat_le 2 (length groups) && are_apart groups) (union_of_groups groups == everybody nodes.count) cut).1

-- The group kept for a processor is the one that it is in.
table_of-own : (nodes : Group) (groups : List ℕ) (a group : ℕ) → is_cut nodes groups ≡ true → IsProc a
    → Contains groups group → IsMember group a → slice_index (table_of groups) (a - 1) ≡ group
table_of-own nodes groups a group cut proc = table_after-own groups (replicate max_processors nobody) a group proc.1 (apart_by nodes groups cut)

-- Nobody, if it is in none.
table_of-other : (groups : List ℕ) (a : ℕ) → IsProc a → (IsMember (union_of_groups groups) a → ⊥) → slice_index (table_of groups) (a - 1) ≡ nobody
table_of-other groups a proc out =
    table_after-other groups (replicate max_processors nobody) a proc.0 proc.1 out ∙
    get_or-replicate max_processors (a - 1) nobody 0 (omega (arith, proc.0, proc.1))

-- Two nodes are together if one of the groups has both.
pub are_connected : (nodes : Group) (groups : List ℕ) (a b : ℕ) → is_cut nodes groups ≡ true → IsProc a → IsProc b
    → (has (slice_index (table_of groups) (a - 1)) b ≡ true) ↔ AreConnected groups a b
are_connected nodes groups a b cut proc also = (
  λ h. elim (cases_Bool (has (union_of_groups groups) a)) [
    | inl some ↦
        let one = in_one groups a (member_had (union_of_groups groups) a proc.0 some) in
        let own = table_of-own nodes groups a one.0 cut proc one.1 one.2 in
        (one.0, one.1, one.2, member_had one.0 b also.0 (rw own at h))
    | inr none ↦
        let out = table_of-other groups a proc (λ m. cc (has_member (union_of_groups groups) a m, none)) in
        absurd (nobody_member b (member_had nobody b also.0 (rw out at h)))
  ],
  λ t. rw (table_of-own nodes groups a t.0 cut proc t.1 t.2) (has_member t.0 b t.3),
)

-- Each node is in one of the groups.
pub cut_everyone : (nodes : Group) (groups : List ℕ) (a : ℕ) → is_cut nodes groups ≡ true → 1 ≤ a → a ≤ nodes.count → AreConnected groups a a
cut_everyone nodes groups a cut low high = in_one groups a (rw (together_by nodes groups cut) ((everybody_members nodes.count a).1 (low, high)))

-- And in no other.
pub cut_once : (nodes : Group) (groups : List ℕ) (a one other : ℕ) → is_cut nodes groups ≡ true → Contains groups one
    → Contains groups other → IsMember one a → IsMember other a → one ≡ other
cut_once nodes groups a one other cut = in_just_one groups a one other (apart_by nodes groups cut)

-- ---- the groups that words denote.

-- Nodes count from 1.
node_low : (nodes : Group) (number : List ℕ) → IfSome (node_of nodes number) (λ node. 1 ≤ node)
node_low nodes number = grind (arith, common_steps)

-- A node of the first number, or one of the others'.
numbered_more : (nodes : Group) (number : List ℕ) (numbers : List (List ℕ)) (node set group a : ℕ) → node_of nodes number ≡ Some node → 1 ≤ node →
    (IsMember group a ↔ (IsMember (union set (only node)) a ⊎ HasNumber nodes numbers a))
    → IsMember group a ↔ (IsMember set a ⊎ HasNumber nodes (number ∷ numbers) a)
numbered_more nodes number numbers node set group a is low others = (
  λ m. elim (others.0 m) [
    | inl u ↦ elim ((union_members set (only node) a).0 u) [
      | inl before ↦ inl before
      | inr new ↦ inr (number, (0, omega arith, refl), rw ((only_members node a low).0 new) is)
    ]
    | inr later ↦ inr (later.0, Contains-cons number numbers later.0 later.1, later.2)
  ],
  λ u. elim u [
    | inl before ↦ others.1 (inl ((union_members set (only node) a).1 (inl before)))
    | inr one ↦ elim (Contains-cons_cases number numbers one.0 one.1) [
      | inl first ↦
          let read : node_of nodes number ≡ Some a = rw first one.2 in
          others.1 (inl ((union_members set (only node) a).1 (inr ((only_members node a low).1 cc))))
      | inr later ↦ others.1 (inr (one.0, later, one.2))
    ]
  ],
)

gathered_members : (nodes : Group) (set : ℕ) (numbers : List (List ℕ)) (group a : ℕ) → member_set nodes set numbers
    ≡ Some group → IsMember group a ↔ (IsMember set a ⊎ HasNumber nodes numbers a)
unfolding member_set
gathered_members nodes set [] group a read =
    let same : set ≡ group = cc in
    (λ m. inl (rw same m), λ u. elim u [ inl m ↦ rw (← same) m | inr none ↦ absurd (omega (arith, none.1.1)) ])
gathered_members nodes set (number ∷ numbers) group a read =
    option_and_then_some (λ node. if has set node then None else member_set nodes (union set (only node)) numbers)
    (node_of nodes number) group read (λ node is rest.
    let low : 1 ≤ node = rw is at (node_low nodes number) in
    elim (cases_Bool (has set node)) [
      | inl twice ↦ let none : None ≡ Some group = rw twice at rest in absurd cc
      | inr new ↦ numbered_more nodes number numbers node set group a is low (gathered_members nodes (union set (only node)) numbers group a (rw new at rest))
    ])

-- The nodes of the group that a word denotes are those that it names.
parse_group-members : (nodes : Group) (word : List ℕ) (group a : ℕ) → parse_group nodes word ≡ Some group → IsMember group a ↔ Names nodes word a
unfolding parse_group
parse_group-members nodes word group a read =
    let members = gathered_members nodes nobody (pieces 44 word) group a read in
    (λ m. elim (members.0 m) [ inl none ↦ absurd (nobody_member a none) | inr named ↦ named ], λ named. members.1 (inr named))

-- Each group is denoted by a word.
by_a_word : (nodes : Group) (words : List (List ℕ)) (groups : List ℕ) (group : ℕ)
    → groups_of nodes words ≡ Some groups → Contains groups group → (word : List ℕ) × Contains words word
    × (parse_group nodes word ≡ Some group)
unfolding groups_of
by_a_word nodes [] groups group read found = let none : groups ≡ [] = cc in let inside = found.1 in absurd (omega (arith, ap length none))
by_a_word nodes (word ∷ words) groups group read found =
    option_and_then_some (λ first. groups_of nodes words >>= λ others. Some (first ∷ others)) (parse_group nodes word) groups read (λ first told rest.
    option_and_then_some (λ others. Some (first ∷ others)) (groups_of nodes words) groups rest (λ others more all.
    let same : groups ≡ first ∷ others = cc in
    elim (Contains-cons_cases first others group (rw same at found)) [
      | inl is ↦ (word, (0, omega arith, refl), rw is at told)
      | inr later ↦ let one = by_a_word nodes words others group more later in (one.0, Contains-cons word words one.0 one.1, one.2)
    ]))

-- Each word denotes one of the groups.
of_a_word : (nodes : Group) (words : List (List ℕ)) (groups : List ℕ) (word : List ℕ)
    → groups_of nodes words ≡ Some groups → Contains words word → (group : ℕ) × Contains groups group
    × (parse_group nodes word ≡ Some group)
unfolding groups_of
of_a_word nodes [] groups word read found = absurd (omega (arith, found.1))
of_a_word nodes (first ∷ words) groups word read found =
    option_and_then_some (λ group. groups_of nodes words >>= λ others. Some (group ∷ others)) (parse_group nodes first) groups read (λ group told rest.
    option_and_then_some (λ others. Some (group ∷ others)) (groups_of nodes words) groups rest (λ others more all.
    let same : groups ≡ group ∷ others = cc in
    elim (Contains-cons_cases first words word found) [
      | inl is ↦ let here : Contains groups group = rw same (0, omega arith, refl) in (group, here, rw is at told)
      | inr later ↦ let one = of_a_word nodes words others word more later in (one.0, rw same (Contains-cons group others one.0 one.1), one.2)
    ]))

-- Two nodes are in one of the groups if one word names both.
named_together : (nodes : Group) (words : List (List ℕ)) (groups : List ℕ) (a b : ℕ)
    → groups_of nodes words ≡ Some groups → AreConnected groups a b ↔ ((word : List ℕ) × Contains words word
    × Names nodes word a × Names nodes word b)
named_together nodes words groups a b read = (
  λ t.
      let one = by_a_word nodes words groups t.0 read t.1 in
      (one.0, one.1, (parse_group-members nodes one.0 t.0 a one.2).0 t.2, (parse_group-members nodes one.0 t.0 b one.2).0 t.3),
  λ n.
      let one = of_a_word nodes words groups n.0 read n.1 in
      (one.0, one.1, (parse_group-members nodes n.0 one.0 a one.2).1 n.2, (parse_group-members nodes n.0 one.0 b one.2).1 n.3),
)

-- Under the cut that words denote, two nodes are connected if one word names both.
pub cut_at-union_of_groups : (nodes : Group) (words rest : List (List ℕ)) (cut : List ℕ) (a b : ℕ) → cut_at nodes words ≡ Some (cut, rest) → IsProc a → IsProc b →
    (has (slice_index cut (a - 1)) b ≡ true) ↔ ((word : List ℕ) × Contains words word × Names nodes word a × Names nodes word b)
unfolding cut_at
cut_at-union_of_groups nodes words rest cut a b read proc also =
    option_and_then_some (λ groups. if is_cut nodes groups then Some (table_of groups, []) else None)
    (groups_of nodes words) (cut, rest) read (λ groups told kept.
    elim (cases_Bool (is_cut nodes groups)) [
      | inl parts ↦
          let all : (table_of groups, []) ≡ (cut, rest) = cc (rw parts at kept) in
          let same : table_of groups ≡ cut = ap (λ (pair : List ℕ × List (List ℕ)). pair.0) all in
          let both = are_connected nodes groups a b parts proc also in
          let named = named_together nodes words groups a b told in
          (λ h. named.0 (both.0 (rw same h)), λ n. rw same at (both.1 (named.1 n)))
      | inr none ↦ let no : None ≡ Some (cut, rest) = rw none at kept in absurd cc
    ])
