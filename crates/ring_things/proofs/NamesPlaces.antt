-- The position of a name among ascending names.
use Rattle.std.proofs.Common.{◌≡◌, ℕ, zero, suc, ◌<◌, ◌≤◌, false, true, not, List, [], ◌∷◌, length, get_or, filter}
use Rattle.std.proofs.Common.{insert, remove, Result, Ok, Err, IfOk, IfErr, refl, sym, ap, ◌∙◌, subst, arith, inl, inr}
use Rattle.std.specs.Fn.{Called, ReturnsEach, AlwaysReturns}
use denote.Param.Members.{Mut}
use Rattle.std.specs.List.{AllByRecursion}
use Rattle.std.specs.List.Sorted.{IsStrictlySortedBy, IsBinarySearchResult, IsSearchInRange, IsNonDecreasingBy}
use Rattle.std.specs.Result.{MatchResult}
use Rattle.std.specs.Ordering.{is_lt, is_eq, ordering_reverse, ordering_index}
use Rattle.std.specs.declared.cmp.Ordering.{Ordering}
use Rattle.std.specs.declared.cmp.Ordering.TheVariants.{Less, Equal, Greater}
use Rattle.std.proofs.lemmas.Cmp.{nat_list_cmp_total, alike_right}
use Rattle.std.proofs.lemmas.Bool.{cond_both, cond-true, cond-false, cases_lt, cases_eq, cases_Bool, or_cases, or_from, or_parts, false≢true}
use Rattle.std.proofs.lemmas.List.Folds.{list_any_none, list_any_at}
use Rattle.std.proofs.lemmas.Map.Keys.{Less-from_sorted}
use Rattle.ring_base.proofs.Cases.{Less-from}
use Rattle.ring_things.specs.Names.{by_bytes, AreAscending, same, has, below, without_name, IsFound, IsMissing}
use Rattle.ring_things.specs.NamesLaws.{above, All-above}

-- A function that stays unchanged satisfies P at each call.
returns_each : {F X R : Type 0} (g : Mut F X R) (P : X → R → Type 0) (f : F)
    → ((a : X) (r : R) (f' : F) → Called g f a r f' → P a r × (f' ≡ f)) → (xs : List X) → ReturnsEach g P f xs
returns_each g P f says [] = tt
returns_each g P f says (a ∷ xs) = λ r f' called.
    let said = says a r f' called in
    (said.0, subst (λ q. ReturnsEach g P q xs) (sym said.1) (returns_each g P f says xs))

pub answers_alike : {F X R : Type 0} (g : Mut F X R) (P : X → R → Type 0) (f : F)
    → ((a : X) (r : R) (f' : F) → Called g f a r f' → P a r × (f' ≡ f)) → AlwaysReturns g P f
answers_alike g P f says = record { at = returns_each g P f says }

-- The names before a position are below the name, and the one at the position isn't.
below_is : (names : List (List ℕ)) (name : List ℕ) (i : ℕ) → i ≤ length names → ((k : ℕ) → k < i → by_bytes (get_or names k []) name ≡ Less) →
    (i < length names → is_lt (by_bytes (get_or names i []) name) ≡ false) → i ≡ below name names
unfolding below
below_is [] name i within lower upper = omega arith
below_is (x ∷ xs) name zero within lower upper = sym (cond-false (is_lt (by_bytes x name)) _ _ (upper (omega arith)))
below_is (x ∷ xs) name (suc i) within lower upper =
    ap suc (below_is xs name i (omega arith) (λ k less. lower (suc k) (omega arith)) (λ less. upper (omega arith)))
    ∙ sym (cond-true (is_lt (by_bytes x name)) _ _ (ap is_lt (lower zero (omega arith))))

order_rises : (p q : Ordering) → (q ≡ Less → p ≡ Less) → (q ≡ Equal → p ≡ Less) → ordering_index p ≤ ordering_index q
order_rises p Less less equal = rw (less refl) (omega arith)
order_rises p Equal less equal = rw (equal refl) (omega arith)
order_rises Less Greater less equal = omega arith
order_rises Equal Greater less equal = omega arith
order_rises Greater Greater less equal = omega arith

-- Compared with any name, ascending names give ascending results.
rises : (names : List (List ℕ)) (name : List ℕ) → AreAscending names → IsNonDecreasingBy (λ other. ordering_index (by_bytes other name)) names
rises names name ascending i j d le within =
    elim (cases_eq i j) [
      | inl e ↦ let P : ℕ → Type 0 = λ k. ordering_index (by_bytes (get_or names i d) name) ≤ ordering_index
          (by_bytes (get_or names k d) name) in subst P e (omega arith)
      | inr ne ↦
          let less = Less-from_sorted by_bytes names i j d ascending (omega (arith, ne)) within in
          order_rises _ _ (λ e. nat_list_cmp_total.trans (get_or names i d) (get_or names j d) name less e)
          (λ e. sym (alike_right nat_list_cmp_total (get_or names j d) name (get_or names i d) e) ∙ less)
    ]

Equal-from : (o : Ordering) → is_eq o ≡ true → o ≡ Equal
Equal-from Less is = absurd cc
Equal-from Equal is = refl
Equal-from Greater is = absurd cc

-- A name above another one differs from it.
differs : (name other : List ℕ) → by_bytes name other ≡ Less → same name other ≡ false
differs name other above_it = ap is_eq (nat_list_cmp_total.antisymm other name ∙ ap ordering_reverse above_it)

all_differ : (name : List ℕ) (names : List (List ℕ)) → AllByRecursion (λ other. by_bytes name other ≡ Less) names
    → filter (λ other. not (same name other)) names ≡ names
all_differ name [] above_it = refl
all_differ name (x ∷ xs) above_it =
    cond-true (not (same name x)) _ _ (ap not (differs name x above_it.0)) ∙ ap (λ ys. x ∷ ys) (all_differ name xs above_it.1)

none_same : (name : List ℕ) (names : List (List ℕ)) → AllByRecursion (λ other. by_bytes name other ≡ Less) names → has name names ≡ false
none_same name [] above_it = refl
none_same name (x ∷ xs) above_it = or_from (same name x) (has name xs) (differs name x above_it.0) (none_same name xs above_it.1)

above_same : (name x : List ℕ) (xs : List (List ℕ)) → by_bytes x name ≡ Equal
    → AllByRecursion (λ y. by_bytes x y ≡ Less) xs → AllByRecursion (λ y. by_bytes name y ≡ Less) xs
above_same name x [] equal above_x = tt
above_same name x (y ∷ ys) equal above_x = (sym (nat_list_cmp_total.congr x name y equal) ∙ above_x.0, above_same name x ys equal above_x.1)

remove-below : (name : List ℕ) (names : List (List ℕ)) → AreAscending names → has name names ≡ true → remove names (below name names) ≡ without_name name names
unfolding IsStrictlySortedBy below
remove-below name [] ascending there = absurd cc
remove-below name (x ∷ xs) ascending there =
    cond_both (is_lt (by_bytes x name)) (suc (below name xs)) 0 (λ (i : ℕ). remove (x ∷ xs) i ≡ without_name name (x ∷ xs))
    (λ lower.
    let less = Less-from (by_bytes x name) lower in
    let others : has name xs ≡ true = elim (or_cases (same name x) (has name xs) there) [
      | inl e ↦ absurd (false≢true (sym (ap is_eq less) ∙ e))
      | inr e ↦ e
    ] in
    ap (λ ys. x ∷ ys) (remove-below name xs ascending.1 others) ∙ sym (cond-true (not (same name x)) _ _ (ap (λ o. not (is_eq o)) less)))
    (λ not_lower.
    let here : same name x ≡ true = elim (cases_Bool (same name x)) [
      | inl e ↦ e
      | inr e ↦ absurd (false≢true (sym (or_from (same name x) (has name xs) e
          (none_same name xs (All-above name x xs (above x name not_lower e) ascending.0))) ∙ there))
    ] in
    sym (cond-false (not (same name x)) _ _ (ap not here) ∙ all_differ name xs (above_same name x xs (Equal-from _ here) ascending.0)))

-- Removing a name that isn't there changes nothing.
without_name-missing : (name : List ℕ) (names : List (List ℕ)) → has name names ≡ false → without_name name names ≡ names
without_name-missing name [] missing = refl
without_name-missing name (x ∷ xs) missing =
    let parts = or_parts (same name x) (has name xs) missing in
    cond-true (not (same name x)) _ _ (ap not parts.0) ∙ ap (λ ys. x ∷ ys) (without_name-missing name xs parts.1)

pub place_is : (names : List (List ℕ)) (name : List ℕ) (place : Result ℕ ℕ) → AreAscending names
    → IsSearchInRange place (length names) → IsBinarySearchResult (λ other. by_bytes other name) names place →
    MatchResult place (IsFound name names) (IsMissing name names)
place_is names name (Ok i) ascending within at =
    let equal = at [] in
    let there : has name names ≡ true = list_any_at (same name) names i [] within (ap is_eq equal) in
    let is : i ≡ below name names =
    below_is names name i (omega arith) (λ k less. sym (alike_right nat_list_cmp_total (get_or names i []) name
    (get_or names k []) equal) ∙ Less-from_sorted by_bytes names k i [] ascending less within)
    (λ _. ap is_lt equal) in
    record { there = there; within = within; others = ap (remove names) is ∙ remove-below name names ascending there }
place_is names name (Err i) ascending within at =
    let parts = at (rises names name ascending) in
    let nowhere : has name names ≡ false = list_any_none (same name) names (λ k d less. elim (cases_lt k i) [
      | inl lower ↦ ap is_eq (parts.0 k d (omega arith) lower)
      | inr upper ↦ ap is_eq (parts.1 k d upper less)
    ]) in
    let is : i ≡ below name names = below_is names name i within (λ k less. parts.0 k [] (omega arith) less)
    (λ less. ap is_lt (parts.1 i [] (omega arith) less)) in
    record { nowhere = nowhere; within = within; with_it = ap (λ place. insert names place name) is; others = sym (without_name-missing name names nowhere) }

-- The two cases of a property of a result.
pub if_ok : {A B : Type 0} (P : A → Type 0) (Q : B → Type 0) (r : Result A B) → MatchResult r P Q → IfOk r P
if_ok P Q (Ok x) holds = holds
if_ok P Q (Err e) holds = tt

pub if_err : {A B : Type 0} (P : A → Type 0) (Q : B → Type 0) (r : Result A B) → MatchResult r P Q → IfErr r Q
if_err P Q (Ok x) holds = tt
if_err P Q (Err e) holds = holds
