-- The words of a cut, taken one after the other.
use Rattle.std.proofs.Common.{◌≡◌, ℕ, suc, ◌+◌, ◌<◌, ◌≤◌, Bool, true, false, List, [], ◌∷◌, ◌++◌, length, take, drop}
use Rattle.std.proofs.Common.{get_or, set, replicate, Option, Some, None, min, refl, ap, sym, ◌∙◌, arith, append_assoc}
use Rattle.std.proofs.Common.{eq-eqb}
use Rattle.std.specs.Prelude.{nat_le, ◌&&◌, ◌==◌, if◌then◌else◌}
use Rattle.std.specs.Cmp.{both_ways}
use Rattle.std.specs.Int.Bits.{or_add_and}
use Rattle.std.proofs.Math.Seq.{drop-cons, take-suc-set}
use Rattle.std.proofs.lemmas.Bool.{and_parts, and_from, eqb-true, leb-true, le-leb}
use Rattle.std.proofs.lemmas.List.{drop-set-lt, take_all, at_drop_all, append-nil}
use Rattle.std.proofs.lemmas.Nat.{and_le_l, and_comm, or_comm}
use Rattle.std.proofs.lemmas.Nat.Bits.{bit_at_and, bit_at_or, same_from_bits}
use Rattle.ring_base.specs.Group.{Group}
use Rattle.ring_base.specs.Processors.{max_processors, has, nobody, everybody, union, intersection}
use Rattle.ring_script.specs.Cuts.{parse_group, groups_of, union_of_groups, are_apart, is_cut, placed_from, table_after, table_of, cut_at}
use Rattle.ring_script.specs.Reading.{◌>>=◌}

-- The cut that the words complete, after `count` groups of these nodes with this table.
unfoldable pub cut_after : Group → ℕ → ℕ → List ℕ → List (List ℕ) → Option (List ℕ × List (List ℕ))
cut_after nodes count placed table [] = if nat_le 2 count && (placed == everybody nodes.count) then Some (table, []) else None
cut_after nodes count placed table (word ∷ words) = do
  group ← parse_group nodes word
  (if intersection placed group == nobody then cut_after nodes (min (count + 1) 255) (union placed group) (placed_from 1 group table) words else None)

-- ---- sets.

intersection-union : (a b c : ℕ) → intersection a (union b c) ≡ union (intersection a b) (intersection a c)
intersection-union a b c = same_from_bits _ _ (λ i.
    let e = bit_at_and a (union b c) i in
    let f = bit_at_or b c i in
    let g = bit_at_or (intersection a b) (intersection a c) i in
    let h = bit_at_and a b i in
    let k = bit_at_and a c i in
    omega arith)

union_assoc : (a b c : ℕ) → union (union a b) c ≡ union a (union b c)
union_assoc a b c = same_from_bits _ _ (λ i.
    let e = bit_at_or (union a b) c i in
    let f = bit_at_or a b i in
    let g = bit_at_or a (union b c) i in
    let h = bit_at_or b c i in
    omega arith)

union-nobody : (a : ℕ) → union a nobody ≡ a
union-nobody a = let e = or_add_and a 0 in let f = and_le_l 0 a in let g = and_comm 0 a in omega arith

intersection-nobody : (a : ℕ) → intersection a nobody ≡ nobody
intersection-nobody a = let f = and_le_l 0 a in let g = and_comm 0 a in omega arith

-- A union is empty if both sets are.
empty-union : (a b : ℕ) → (union a b == nobody) ≡ ((a == nobody) && (b == nobody))
empty-union a b =
    let e = or_add_and a b in
    let f = and_le_l a b in
    let g = and_le_l b a in
    let h = and_comm a b in
    both_ways (union a b == nobody) ((a == nobody) && (b == nobody))
    (λ empty. let none = eqb-true (union a b) 0 empty in and_from (a == nobody) (b == nobody) (eq-eqb a 0 (omega arith)) (eq-eqb b 0 (omega arith)))
    (λ both.
    let parts = and_parts (a == nobody) (b == nobody) both in
    let first = eqb-true a 0 parts.0 in
    let second = eqb-true b 0 parts.1 in
    eq-eqb (union a b) 0 (omega arith))

apart_first : (a b c : ℕ) → (intersection a (union b c) == nobody) ≡ ((intersection a b == nobody) && (intersection a c == nobody))
apart_first a b c = rw intersection-union (empty-union (intersection a b) (intersection a c))

apart_second : (a b c : ℕ) → (intersection (union a b) c == nobody) ≡ ((intersection a c == nobody) && (intersection b c == nobody))
apart_second a b c = rw (and_comm (union a b) c, and_comm a c, and_comm b c) (apart_first c a b)

-- ---- the tests of a cut, from some groups on.

abbrev tests : Group → ℕ → ℕ → List ℕ → Bool
tests nodes count placed groups =
    ((intersection placed (union_of_groups groups) == nobody) && are_apart groups)
    && (nat_le 2 (count + length groups) && (union placed (union_of_groups groups) == everybody nodes.count))

regroup : (p q r s z : Bool) → (((p && q) && (r && s)) && z) ≡ (p && (((q && r) && s) && z))
regroup false q r s z = refl
regroup true false r s z = refl
regroup true true r s z = refl

at_least_two : (count n : ℕ) → nat_le 2 (count + suc n) ≡ nat_le 2 (min (count + 1) 255 + n)
at_least_two count n = both_ways (nat_le 2 (count + suc n)) (nat_le 2 (min (count + 1) 255 + n))
    (λ e. let le = leb-true 2 (count + suc n) e in le-leb 2 (min (count + 1) 255 + n) (omega arith))
    (λ e. let le = leb-true 2 (min (count + 1) 255 + n) e in le-leb 2 (count + suc n) (omega arith))

tests_more : (nodes : Group) (count placed group : ℕ) (groups : List ℕ) → tests nodes count placed (group ∷ groups)
    ≡ ((intersection placed group == nobody) && tests nodes (min (count + 1) 255) (union placed group) groups)
unfolding union_of_groups are_apart
tests_more nodes count placed group groups =
    rw (
      apart_first placed group (union_of_groups groups),
      apart_second placed group (union_of_groups groups),
      at_least_two count (length groups),
      union_assoc placed group (union_of_groups groups),
    )
    (regroup (intersection placed group == nobody) (intersection placed (union_of_groups groups) == nobody) (intersection group (union_of_groups groups) == nobody) (are_apart groups) _)

-- ---- the words, by the groups that they denote.

nested : {Y : Type 0} (b t : Bool) (x : Option Y) → (if b then (if t then x else None) else None) ≡ (if b && t then x else None)
nested true t x = refl
nested false t x = refl

neither : {Y : Type 0} (b : Bool) → if◌then◌else◌ {A = Option Y} b None None ≡ None
neither true = refl
neither false = refl

-- The result for these groups, if they could be parsed.
abbrev made : Group → ℕ → ℕ → List ℕ → Option (List ℕ) → Option (List ℕ × List (List ℕ))
made nodes count placed table read = read >>= λ groups. if tests nodes count placed groups then Some (table_after table groups, []) else None

-- One more group.
made_more : (nodes : Group) (count placed : ℕ) (table : List ℕ) (group : ℕ) (read : Option (List ℕ)) →
    (if intersection placed group == nobody then made nodes (min (count + 1) 255) (union placed group)
    (placed_from 1 group table) read else None) ≡ made nodes count placed table
    (read >>= λ others. Some (group ∷ others))
unfolding table_after
made_more nodes count placed table group None = neither (intersection placed group == nobody)
made_more nodes count placed table group (Some others) =
    nested (intersection placed group == nobody) (tests nodes (min (count + 1) 255) (union placed group) others)
    (Some (table_after (placed_from 1 group table) others, [])) ∙
    ap (λ (b : Bool). if b then Some (table_after (placed_from 1 group table) others, []) else None) (sym (tests_more nodes count placed group others))

cut_word : (nodes : Group) (count placed : ℕ) (table : List ℕ) (words : List (List ℕ)) (first : Option ℕ) →
    ((group : ℕ) → cut_after nodes (min (count + 1) 255) (union placed group) (placed_from 1 group table) words
    ≡ made nodes (min (count + 1) 255) (union placed group) (placed_from 1 group table) (groups_of nodes words)) →
    (first >>= λ group. (if intersection placed group == nobody then cut_after nodes (min (count + 1) 255)
    (union placed group) (placed_from 1 group table) words else None)) ≡
    made nodes count placed table (first >>= λ group. groups_of nodes words >>= λ others. Some (group ∷ others))
cut_word nodes count placed table words None others = refl
cut_word nodes count placed table words (Some group) others = rw (others group) (made_more nodes count placed table group (groups_of nodes words))

cut_after-groups : (nodes : Group) (count placed : ℕ) (table : List ℕ) (words : List (List ℕ))
    → cut_after nodes count placed table words ≡ made nodes count placed table (groups_of nodes words)
unfolding cut_after groups_of union_of_groups are_apart table_after
cut_after-groups nodes count placed table [] =
    let same : count + 0 ≡ count = omega arith in
    rw (intersection-nobody placed, union-nobody placed, same) refl
cut_after-groups nodes count placed table (word ∷ words) =
    cut_word nodes count placed table words (parse_group nodes word)
    (λ group. cut_after-groups nodes (min (count + 1) 255) (union placed group) (placed_from 1 group table) words)

shuffle : (a t e : Bool) → (a && (t && e)) ≡ ((t && a) && e)
shuffle true true e = refl
shuffle true false e = refl
shuffle false true e = refl
shuffle false false e = refl

tests-none : (nodes : Group) (groups : List ℕ) → tests nodes 0 nobody groups ≡ is_cut nodes groups
tests-none nodes groups =
    let none : intersection nobody (union_of_groups groups) ≡ nobody = and_comm 0 (union_of_groups groups) ∙ intersection-nobody (union_of_groups groups) in
    let all : union nobody (union_of_groups groups) ≡ union_of_groups groups = or_comm 0 (union_of_groups groups) ∙ union-nobody (union_of_groups groups) in
    let same : 0 + length groups ≡ length groups = omega arith in
    rw (none, all, same) (shuffle (are_apart groups) (nat_le 2 (length groups)) (union_of_groups groups == everybody nodes.count))

-- From the first group on.
pub cut_after-none : (nodes : Group) (words : List (List ℕ)) → cut_after nodes 0 nobody (replicate max_processors nobody) words ≡ cut_at nodes words
unfolding cut_at
cut_after-none nodes words = cut_after-groups nodes 0 nobody (replicate max_processors nobody) words ∙ whole (groups_of nodes words)
  where
    whole : (read : Option (List ℕ)) → made nodes 0 nobody (replicate max_processors nobody) read
        ≡ (read >>= λ groups. if is_cut nodes groups then Some (table_of groups, []) else None)
    whole None = refl
    whole (Some groups) = rw (tests-none nodes groups) refl

-- ---- the groups of the processors, one after the other.

placed-more : (group i : ℕ) (kept : List ℕ) → i < length kept → placed_from (i + 1) group (drop i kept)
    ≡ (if has group (i + 1) then group else get_or kept i 0) ∷ placed_from (i + 1 + 1) group (drop (suc i) kept)
unfolding placed_from
placed-more group i kept lt = rw (drop-cons kept i 0) refl

-- One more place.
pub placed_at : (group i : ℕ) (kept : List ℕ) (y : ℕ) → i < length kept
    → y ≡ (if has group (i + 1) then group else get_or kept i 0) → take (i + 1) (set kept i y) ++ placed_from
    (i + 1 + 1) group (drop (i + 1) (set kept i y)) ≡ take i kept ++ placed_from (i + 1) group (drop i kept)
placed_at group i kept y lt e =
    let next : i + 1 ≡ suc i = omega arith in
    let more : placed_from (i + 1) group (drop i kept) ≡ y ∷ placed_from (i + 1 + 1) group (drop (suc i) kept) = rw e (placed-more group i kept lt) in
    let front = take-suc-set kept i y lt in
    let back = drop-set-lt (suc i) kept i y (omega arith) in
    rw (more, next, front, back) (append_assoc (take i kept) (y ∷ []) (placed_from (suc i + 1) group (drop (suc i) kept)))

-- After the last.
pub placed_all : (group i : ℕ) (kept total : List ℕ) → length kept ≤ i → take i kept ++ placed_from (i + 1) group (drop i kept) ≡ total → kept ≡ total
unfolding placed_from
placed_all group i kept total le e =
    sym (append-nil kept) ∙ rw (take_all i kept le, at_drop_all (placed_from (i + 1) group) kept i le) at e
