-- Inserting, overwriting or removing one entry of a list with ascending keys.
use Rattle.std.proofs.Common.{◌≡◌, ℕ, ◌+◌, ◌<◌, true, false, List, [], ◌∷◌, length, Some, None, refl, ap, sym, ◌∙◌, arith, cond}
use Rattle.std.specs.BTreeMap.{insert_entry, is_at}
use Rattle.std.specs.Cmp.{nat_cmp_total, nat_cmp_is}
use Rattle.std.specs.List.{AllByRecursion}
use Rattle.std.specs.List.Sorted.{IsStrictlySortedBy}
use Rattle.std.specs.Map.{lookup, keys_of, set_value, remove_entry}
use Rattle.std.specs.Ordering.{nat_cmp, is_eq, match_ordering}
use Rattle.std.specs.declared.cmp.Ordering.{Ordering}
use Rattle.std.specs.declared.cmp.Ordering.TheVariants.{Less, Equal, Greater}
use Rattle.std.proofs.lemmas.Bool.{cond-true, cond-false}
use Rattle.std.proofs.lemmas.Cmp.{ranked}
use Rattle.std.proofs.lemmas.Map.{lookup-none}
use Rattle.std.proofs.lemmas.Map.Entries.{none_below_head}
use Rattle.std.proofs.lemmas.Map.Keys.{sorted_tail}

-- ---- keys

at_itself : (k : ℕ) → is_at (nat_cmp k) k ≡ true
at_itself k = ap is_eq (sym (nat_cmp_is k k Equal refl))

at_other : (q k : ℕ) (o : Ordering) → o ≡ nat_cmp q k → (q ≡ k → ⊥) → is_eq o ≡ false
at_other q k Less is ne = refl
at_other q k Equal is ne = absurd (ne (ranked q k Equal is))
at_other q k Greater is ne = refl

below_all : (x k : ℕ) → x < k → (ks : List ℕ) → AllByRecursion (λ y. nat_cmp k y ≡ Less) ks → AllByRecursion (λ y. nat_cmp x y ≡ Less) ks
below_all x k lt [] below = tt
below_all x k lt (y ∷ ys) below =
    let more : k < y = ranked k y Less (sym below.0) in
    (sym (nat_cmp_is x y Less (omega (arith, lt, more))), below_all x k lt ys below.1)

-- ---- inserting a key

known_step : {X : Type 0} (e : ℕ × X) (es : List (ℕ × X)) (k : ℕ) (w v : X) (o : Ordering) → (o ≡ Less → lookup (is_at (nat_cmp k)) (e ∷ es) ≡ None)
    → (lookup (is_at (nat_cmp k)) es ≡ Some v → set_value (is_at (nat_cmp k)) es w ≡ insert_entry nat_cmp es k w) → lookup (is_at (nat_cmp k)) (e ∷ es) ≡ Some v
    → cond (is_eq o) (Some e.1) (lookup (is_at (nat_cmp k)) es) ≡ Some v
    → cond (is_eq o) ((e.0, w) ∷ es) (e ∷ set_value (is_at (nat_cmp k)) es w) ≡ match_ordering o ((k, w) ∷ e ∷ es)
    ((e.0, w) ∷ es) (e ∷ insert_entry nat_cmp es k w)
known_step e es k w v Less below rest found there = absurd (cc (found, below refl))
known_step e es k w v Equal below rest found there = refl
known_step e es k w v Greater below rest found there = ap (λ l. e ∷ l) (rest there)

-- A known key keeps its position.
pub set_value-known : {X : Type 0} (es : List (ℕ × X)) (k : ℕ) (w v : X) → IsStrictlySortedBy nat_cmp (keys_of es)
    → lookup (is_at (nat_cmp k)) es ≡ Some v → set_value (is_at (nat_cmp k)) es w ≡ insert_entry nat_cmp es k w
set_value-known [] k w v sorted found = absurd (cc found)
set_value-known (e ∷ es) k w v sorted found =
    known_step e es k w v (nat_cmp k e.0) (λ less. lookup-none (is_at (nat_cmp k)) (e ∷ es) (none_below_head nat_cmp_total k e es sorted less))
    (set_value-known es k w v (sorted_tail nat_cmp e.0 (keys_of es) sorted)) found found

remove_step : {X : Type 0} (e : ℕ × X) (es : List (ℕ × X)) (k : ℕ) (w : X) (o : Ordering) → o ≡ nat_cmp k e.0
    → (lookup (is_at (nat_cmp k)) es ≡ None → remove_entry (is_at (nat_cmp k)) (insert_entry nat_cmp es k w) ≡ es)
    → cond (is_eq o) (Some e.1) (lookup (is_at (nat_cmp k)) es) ≡ None → remove_entry (is_at (nat_cmp k))
    (match_ordering o ((k, w) ∷ e ∷ es) ((e.0, w) ∷ es) (e ∷ insert_entry nat_cmp es k w)) ≡ e ∷ es
remove_step e es k w Less is rest none = cond-true (is_at (nat_cmp k) k) (e ∷ es) ((k, w) ∷ remove_entry (is_at (nat_cmp k)) (e ∷ es)) (at_itself k)
remove_step e es k w Equal is rest none = absurd (cc none)
remove_step e es k w Greater is rest none =
    cond-false (is_at (nat_cmp k) e.0) (insert_entry nat_cmp es k w)
    (e ∷ remove_entry (is_at (nat_cmp k)) (insert_entry nat_cmp es k w)) (ap is_eq (sym is))
    ∙ ap (λ l. e ∷ l) (rest none)

-- Inserting and removing a new key.
pub remove_entry-new : {X : Type 0} (es : List (ℕ × X)) (k : ℕ) (w : X) → lookup (is_at (nat_cmp k)) es ≡ None
    → remove_entry (is_at (nat_cmp k)) (insert_entry nat_cmp es k w) ≡ es
remove_entry-new [] k w none = cond-true (is_at (nat_cmp k) k) [] ((k, w) ∷ []) (at_itself k)
remove_entry-new (e ∷ es) k w none = remove_step e es k w (nat_cmp k e.0) refl (remove_entry-new es k w) none

length_step : {X : Type 0} (e : ℕ × X) (es : List (ℕ × X)) (k : ℕ) (w : X) (o : Ordering)
    → (lookup (is_at (nat_cmp k)) es ≡ None → length (insert_entry nat_cmp es k w) ≡ length es + 1)
    → cond (is_eq o) (Some e.1) (lookup (is_at (nat_cmp k)) es) ≡ None
    → length (match_ordering o ((k, w) ∷ e ∷ es) ((e.0, w) ∷ es) (e ∷ insert_entry nat_cmp es k w)) ≡ length
    (e ∷ es) + 1
length_step e es k w Less rest none = omega arith
length_step e es k w Equal rest none = absurd (cc none)
length_step e es k w Greater rest none = omega (arith, rest none)

-- A new key makes one more.
pub length-new : {X : Type 0} (es : List (ℕ × X)) (k : ℕ) (w : X) → lookup (is_at (nat_cmp k)) es ≡ None → length (insert_entry nat_cmp es k w) ≡ length es + 1
length-new [] k w none = refl
length-new (e ∷ es) k w none = length_step e es k w (nat_cmp k e.0) (length-new es k w) none

same_step : {X : Type 0} (e : ℕ × X) (es : List (ℕ × X)) (k : ℕ) (w : X) (o : Ordering) → o ≡ nat_cmp k e.0
    → lookup (is_at (nat_cmp k)) (insert_entry nat_cmp es k w) ≡ Some w
    → lookup (is_at (nat_cmp k)) (match_ordering o ((k, w) ∷ e ∷ es) ((e.0, w) ∷ es) (e ∷ insert_entry nat_cmp es k w)) ≡ Some w
same_step e es k w Less is rest = cond-true (is_at (nat_cmp k) k) (Some w) (lookup (is_at (nat_cmp k)) (e ∷ es)) (at_itself k)
same_step e es k w Equal is rest = cond-true (is_at (nat_cmp k) e.0) (Some w) (lookup (is_at (nat_cmp k)) es) (ap is_eq (sym is))
same_step e es k w Greater is rest = cond-false (is_at (nat_cmp k) e.0) (Some e.1)
    (lookup (is_at (nat_cmp k)) (insert_entry nat_cmp es k w)) (ap is_eq (sym is)) ∙ rest

-- The key has the inserted value.
pub lookup-insert_same : {X : Type 0} (es : List (ℕ × X)) (k : ℕ) (w : X) → lookup (is_at (nat_cmp k)) (insert_entry nat_cmp es k w) ≡ Some w
lookup-insert_same [] k w = cond-true (is_at (nat_cmp k) k) (Some w) None (at_itself k)
lookup-insert_same (e ∷ es) k w = same_step e es k w (nat_cmp k e.0) refl (lookup-insert_same es k w)

other_step : {X : Type 0} (e : ℕ × X) (es : List (ℕ × X)) (k q : ℕ) (w : X) (o : Ordering) → o ≡ nat_cmp k e.0
    → (q ≡ k → ⊥) → lookup (is_at (nat_cmp q)) (insert_entry nat_cmp es k w) ≡ lookup (is_at (nat_cmp q)) es
    → lookup (is_at (nat_cmp q)) (match_ordering o ((k, w) ∷ e ∷ es) ((e.0, w) ∷ es) (e ∷ insert_entry nat_cmp es k w)) ≡ lookup (is_at (nat_cmp q)) (e ∷ es)
other_step e es k q w Less is ne rest = cond-false (is_at (nat_cmp q) k) (Some w) (lookup (is_at (nat_cmp q)) (e ∷ es)) (at_other q k (nat_cmp q k) refl ne)
other_step e es k q w Equal is ne rest =
    let here : k ≡ e.0 = ranked k e.0 Equal is in
    let apart : is_at (nat_cmp q) e.0 ≡ false = at_other q e.0 (nat_cmp q e.0) refl (λ same. ne (same ∙ sym here)) in
    cond-false (is_at (nat_cmp q) e.0) (Some w) (lookup (is_at (nat_cmp q)) es) apart
    ∙ sym (cond-false (is_at (nat_cmp q) e.0) (Some e.1) (lookup (is_at (nat_cmp q)) es) apart)
other_step e es k q w Greater is ne rest = ap (λ o. cond (is_at (nat_cmp q) e.0) (Some e.1) o) rest

-- Each other key has its old value.
pub lookup-insert_other : {X : Type 0} (es : List (ℕ × X)) (k q : ℕ) (w : X) → (q ≡ k → ⊥)
    → lookup (is_at (nat_cmp q)) (insert_entry nat_cmp es k w) ≡ lookup (is_at (nat_cmp q)) es
lookup-insert_other [] k q w ne = cond-false (is_at (nat_cmp q) k) (Some w) None (at_other q k (nat_cmp q k) refl ne)
lookup-insert_other (e ∷ es) k q w ne = other_step e es k q w (nat_cmp k e.0) refl ne (lookup-insert_other es k q w ne)

-- ---- the order

-- The empty list of keys ascends.
pub sorted_none : IsStrictlySortedBy nat_cmp []
unfolding IsStrictlySortedBy
sorted_none = tt

below_step : {X : Type 0} (x : ℕ) (e : ℕ × X) (es : List (ℕ × X)) (k : ℕ) (w : X) (o : Ordering) → nat_cmp x k ≡ Less
    → AllByRecursion (λ y. nat_cmp x y ≡ Less) (keys_of (e ∷ es)) → AllByRecursion (λ y. nat_cmp x y ≡ Less)
    (keys_of (insert_entry nat_cmp es k w))
    → AllByRecursion (λ y. nat_cmp x y ≡ Less) (keys_of (match_ordering o ((k, w) ∷ e ∷ es) ((e.0, w) ∷ es) (e ∷ insert_entry nat_cmp es k w)))
below_step x e es k w Less lt below rest = (lt, below)
below_step x e es k w Equal lt below rest = below
below_step x e es k w Greater lt below rest = (below.0, rest)

below_insert : {X : Type 0} (x : ℕ) (es : List (ℕ × X)) (k : ℕ) (w : X) → nat_cmp x k ≡ Less
    → AllByRecursion (λ y. nat_cmp x y ≡ Less) (keys_of es) → AllByRecursion (λ y. nat_cmp x y ≡ Less)
    (keys_of (insert_entry nat_cmp es k w))
below_insert x [] k w lt below = (lt, tt)
below_insert x (e ∷ es) k w lt below = below_step x e es k w (nat_cmp k e.0) lt below (below_insert x es k w lt below.1)

sorted_step : {X : Type 0} (e : ℕ × X) (es : List (ℕ × X)) (k : ℕ) (w : X) (o : Ordering) → o ≡ nat_cmp k e.0
    → IsStrictlySortedBy nat_cmp (keys_of (e ∷ es)) → IsStrictlySortedBy nat_cmp (keys_of (insert_entry nat_cmp es k w))
    → IsStrictlySortedBy nat_cmp (keys_of (match_ordering o ((k, w) ∷ e ∷ es) ((e.0, w) ∷ es) (e ∷ insert_entry nat_cmp es k w)))
unfolding IsStrictlySortedBy
sorted_step e es k w Less is sorted rest = ((sym is, below_all k e.0 (ranked k e.0 Less is) (keys_of es) sorted.0), sorted)
sorted_step e es k w Equal is sorted rest = sorted
sorted_step e es k w Greater is sorted rest = (below_insert e.0 es k w (sym (nat_cmp_is e.0 k Less (ranked k e.0 Greater is))) sorted.0, rest)

-- The keys still ascend.
pub sorted_insert : {X : Type 0} (es : List (ℕ × X)) (k : ℕ) (w : X) → IsStrictlySortedBy nat_cmp (keys_of es)
    → IsStrictlySortedBy nat_cmp (keys_of (insert_entry nat_cmp es k w))
unfolding IsStrictlySortedBy
sorted_insert [] k w sorted = (tt, tt)
sorted_insert (e ∷ es) k w sorted = sorted_step e es k w (nat_cmp k e.0) refl sorted (sorted_insert es k w sorted.1)
