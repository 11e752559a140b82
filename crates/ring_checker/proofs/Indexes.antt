-- An index has the places of an order's calls; a count for each client decides whether they are numbered.
use Rattle.std.proofs.Common.{◌≡◌, ℕ, zero, suc, ◌+◌, ◌-◌, ◌<◌, ◌≤◌, ◌↔◌, ◌⊎◌, IsTrue, true, false, List, [], ◌∷◌, ◌++◌, length, length-append, take}
use Rattle.std.proofs.Common.{Option, Some, None, slice_get, refl, ap, sym, subst, ◌∙◌, arith, add-one, inl, inr}
use Rattle.std.specs.BTreeMap.{BTreeMap, get, is_at}
use Rattle.std.specs.Prelude.{Vec}
use Rattle.std.specs.Ordering.{nat_cmp}
use Rattle.std.proofs.lemmas.Bool.{cases_eq, cases_lt}
use Rattle.std.specs.Map.{lookup}
use Rattle.std.proofs.lemmas.Option.{slice_get_within}
use Rattle.ring_base.proofs.ListPlaces.{get-last}
use Rattle.ring_base.proofs.Rows.{take-more}
use Rattle.ring_payload.specs.declared.call.Call.{Call}
use Rattle.ring_payload.specs.SameCalls.{is_same-self}
use Rattle.ring_session.specs.Deduplicated.{count_of, IsCallAt, IsNumbered}
use Rattle.ring_session.specs.DeduplicatedLaws.{count_of-push_own, count_of-push_other}
use Rattle.ring_session.specs.SessionAnswer.{is_same}
use Rattle.ring_session.specs.SessionAnswerLaws.{is_same-true}
use Rattle.ring_checker.specs.Checks.{place_in, index_row_of, places_of, place_by_call_number, place_at, AddsPlace, IsIndexOf}
use Rattle.ring_checker.proofs.Places.{none_or_some, place_in-stands, place_in-least}
use Rattle.ring_node_spec.proofs.FirstMatch.{EachUpTo}

-- a fact of each element up to a place, and of the one there
pub each-more : {X : Type 0} (P : ℕ → X → Type 0) (xs : List X) (n : ℕ) (x : X) → EachUpTo P xs n → slice_get xs n ≡ Some x → P n x
    → EachUpTo P xs (n + 1)
each-more P xs n x each at holds q y within there =
    elim (cases_lt q n) as (λ _. P q y) [
      | inl before ↦ each q y before there
      | inr past ↦
          let same : n ≡ q = omega (arith, within, past) in
          let one : Some x ≡ Some y = sym at ∙ ap (slice_get xs) same ∙ there in
          let item : x ≡ y = cc one in
          subst (λ k. P k y) same (subst (P n) item holds)
    ]

-- ---- numbers

-- the number of the call at a place follows those of its client's calls before it
abbrev pub HasNext : {A : Type 0} → List (Call A) → ℕ → Call A → Type 0
HasNext order p c = c.number ≡ count_of c.client (take p order) + 1

-- ---- rows of places

-- only the last place of a row is new
push-apart : {X : Type 0} (xs : List X) (y : X) (k : ℕ) → (k ≡ length xs → ⊥) → slice_get (xs ++ y ∷ []) k ≡ slice_get xs k
push-apart [] y zero apart = absurd (apart refl)
push-apart [] y (suc k) apart = refl
push-apart (x ∷ xs) y zero apart = refl
push-apart (x ∷ xs) y (suc k) apart = push-apart xs y k (λ same. apart (ap suc same))

place_by_call_number-push : (row : List ℕ) (p n : ℕ) → (n ≡ length row + 1 → ⊥) → place_by_call_number (row ++ p ∷ []) n ≡ place_by_call_number row n
place_by_call_number-push row p zero apart = refl
place_by_call_number-push row p (suc k) apart = push-apart row p k (λ same. apart (ap suc same ∙ sym (add-one (length row))))

place_by_call_number-last : (row : List ℕ) (p : ℕ) → place_by_call_number (row ++ p ∷ []) (length row + 1) ≡ Some p
place_by_call_number-last row p = ap (place_by_call_number (row ++ p ∷ [])) (add-one (length row)) ∙ get-last row p

place_by_call_number-within : (row : List ℕ) (n p : ℕ) → place_by_call_number row n ≡ Some p → n ≡ length row + 1 → ⊥
place_by_call_number-within row zero p is past = absurd (cc is)
place_by_call_number-within row (suc k) p is past = let within = slice_get_within row k p is in omega (arith, within, past)

place_by_call_number-none : (n : ℕ) → place_by_call_number [] n ≡ None
place_by_call_number-none zero = refl
place_by_call_number-none (suc k) = refl

-- looking up a place finds none: the client is unknown, or it has no such number
pub place_at-unknown : {A : Type 0} (index : BTreeMap ℕ (Vec ℕ A)) (client number : ℕ) → get nat_cmp index client ≡ None
    → None ≡ place_at index (client, number)
place_at-unknown {A} index client number none =
    sym (ap (λ (o : Option (Vec ℕ A)). place_by_call_number (index_row_of o) number) none ∙ place_by_call_number-none number)

-- ---- one more place

-- the number of places of a client
pub count-row : {A : Type 0} (index : BTreeMap ℕ (Vec ℕ A)) (client : ℕ) (was : Option (Vec ℕ A)) → get nat_cmp index client ≡ was
    → length (index_row_of was) ≡ length (places_of index client)
count-row index client was is = ap (λ (o : Option (Vec ℕ _)). length (index_row_of o)) (sym is)

-- ---- the index

-- the calls of the first n places have their clients' next numbers; the index has as many places of each client, each under its
-- call's client and number
pub record IsIndexed {A : Type 0} (order : List (Call A)) (n : ℕ) (index : BTreeMap ℕ (Vec ℕ A)) : Type 0 where
  pub numbered : EachUpTo (HasNext order) order n
  pub counts : (q : ℕ) → length (places_of index q) ≡ count_of q (take n order)
  pub is_index : IsIndexOf order n index

pub indexed-none : {A : Type 0} (order : List (Call A)) (index : BTreeMap ℕ (Vec ℕ A)) → index.entries ≡ [] → IsIndexed order 0 index
indexed-none {A} order index empty =
    let unknown : (q : ℕ) → get nat_cmp index q ≡ None = λ q. ap (λ (es : List (ℕ × Vec ℕ A)). lookup (is_at (nat_cmp q)) es) empty in
    record {
      numbered = λ p c within at. absurd (omega (arith, within));
      counts = λ q. sym (count-row index q None (unknown q));
      is_index = record {
        found = λ name p is. absurd (cc (place_at-unknown index name.0 name.1 (unknown name.0), is));
        finds = λ p c within at. absurd (omega (arith, within));
      };
    }

-- the number of a client's calls, with one more call
counts-more : {A : Type 0} (order : List (Call A)) (n q : ℕ) (c : Call A) (old new : BTreeMap ℕ (Vec ℕ A)) → IsIndexed order n old → IsCallAt order n c
    → AddsPlace old new c.client n → length (places_of new q) ≡ count_of q (take (n + 1) order)
counts-more order n q c old new are at adds =
    let grown : count_of q (take n order ++ c ∷ []) ≡ count_of q (take (n + 1) order) = ap (count_of q) (sym (take-more order n c at)) in
    elim (cases_eq c.client q) as (λ _. length (places_of new q) ≡ count_of q (take (n + 1) order)) [
      | inl same ↦
          let own : length (places_of new c.client) ≡ length (places_of old c.client) + 1 =
          ap length adds.own ∙ length-append (places_of old c.client) (n ∷ []) in
          let all : length (places_of new c.client) ≡ count_of c.client (take n order ++ c ∷ []) =
          own ∙ ap (λ m. m + 1) (are.counts c.client) ∙ sym (count_of-push_own (take n order) c) in
          subst (λ k. length (places_of new k) ≡ count_of k (take n order ++ c ∷ [])) same all ∙ grown
      | inr apart ↦ ap length (adds.others q apart) ∙ are.counts q ∙ sym (count_of-push_other q (take n order) c apart) ∙ grown
    ]

-- looking up a name in the index with one more place: it is the new place, or it was there
place_at-more : {A : Type 0} (n : ℕ) (c : Call A) (old new : BTreeMap ℕ (Vec ℕ A)) (name : ℕ × ℕ) → AddsPlace old new c.client n
    → c.number ≡ length (places_of old c.client) + 1
    → ((c.client ≡ name.0) × (c.number ≡ name.1) × (place_at new name ≡ Some n)) ⊎ (place_at new name ≡ place_at old name)
place_at-more {A} n c old new name adds next =
    elim (cases_eq c.client name.0)
    as (λ _. ((c.client ≡ name.0) × (c.number ≡ name.1) × (place_at new name ≡ Some n)) ⊎ (place_at new name ≡ place_at old name)) [
      | inl client ↦
          let row : places_of new name.0 ≡ places_of old c.client ++ n ∷ [] = ap (places_of new) (sym client) ∙ adds.own in
          elim (cases_eq c.number name.1)
          as (λ _. ((c.client ≡ name.0) × (c.number ≡ name.1) × (place_at new name ≡ Some n)) ⊎ (place_at new name ≡ place_at old name)) [
            | inl number ↦
                let last : name.1 ≡ length (places_of old c.client) + 1 = sym number ∙ next in
                inl (
                  client,
                  number,
                  ap (λ (xs : List ℕ). place_by_call_number xs name.1) row ∙ ap (place_by_call_number (places_of old c.client ++ n ∷ [])) last
                      ∙ place_by_call_number-last (places_of old c.client) n,
                )
            | inr apart ↦
                inr (ap (λ (xs : List ℕ). place_by_call_number xs name.1) row
                ∙ place_by_call_number-push (places_of old c.client) n name.1 (λ last. apart (next ∙ sym last))
                ∙ ap (λ k. place_by_call_number (places_of old k) name.1) client)
          ]
      | inr apart ↦ inr (ap (λ (xs : List ℕ). place_by_call_number xs name.1) (adds.others name.0 apart))
    ]

index-more : {A : Type 0} (order : List (Call A)) (n : ℕ) (c : Call A) (old new : BTreeMap ℕ (Vec ℕ A)) → IsIndexOf order n old → IsCallAt order n c
    → c.number ≡ length (places_of old c.client) + 1 → AddsPlace old new c.client n → IsIndexOf order (n + 1) new
index-more {A} order n c old new is_index at next adds = record {
  found = λ name p is.
      elim (place_at-more n c old new name adds next)
      as (λ _. (d : Call A) × (p < n + 1) × IsCallAt order p d × (d.client ≡ name.0) × (d.number ≡ name.1)) [
        | inl own ↦
            let one : Some n ≡ Some p = sym own.2 ∙ is in
            let place : n ≡ p = cc one in
            (c, omega (arith, place), subst (λ k. IsCallAt order k c) place at, own.0, own.1)
        | inr same ↦
            let before = is_index.found name p (sym same ∙ is) in
            (before.0, omega (arith, before.1), before.2, before.3, before.4)
      ];
  finds = λ p d within there.
      elim (cases_lt p n) as (λ _. place_at new (d.client, d.number) ≡ Some p) [
        | inl before ↦
            let was = is_index.finds p d before there in
            elim (place_at-more n c old new (d.client, d.number) adds next) as (λ _. place_at new (d.client, d.number) ≡ Some p) [
              | inl own ↦
                  let row : places_of old d.client ≡ places_of old c.client = ap (places_of old) (sym own.0) in
                  let last : d.number ≡ length (places_of old d.client) + 1 = sym own.1 ∙ next ∙ ap (λ (xs : List ℕ). length xs + 1) (sym row) in
                  absurd (place_by_call_number-within (places_of old d.client) d.number p was last)
              | inr same ↦ same ∙ was
            ]
        | inr past ↦
            let place : n ≡ p = omega (arith, within, past) in
            let one : Some c ≡ Some d = sym at ∙ ap (slice_get order) place ∙ there in
            let call : c ≡ d = cc one in
            let last : place_at new (c.client, c.number) ≡ Some n = ap (λ (xs : List ℕ). place_by_call_number xs c.number) adds.own
            ∙ ap (place_by_call_number (places_of old c.client ++ n ∷ [])) next ∙ place_by_call_number-last (places_of old c.client) n in
            ap (λ (w : Call A). place_at new (w.client, w.number)) (sym call) ∙ last ∙ ap Some place
      ];
}

-- one more place
pub indexed-more : {A : Type 0} (order : List (Call A)) (n : ℕ) (c : Call A) (old new : BTreeMap ℕ (Vec ℕ A)) → IsIndexed order n old → IsCallAt order n c
    → c.number ≡ length (places_of old c.client) + 1 → AddsPlace old new c.client n → IsIndexed order (n + 1) new
indexed-more order n c old new are at next adds = record {
  numbered = each-more (HasNext order) order n c are.numbered at (next ∙ ap (λ m. m + 1) (are.counts c.client));
  counts = λ q. counts-more order n q c old new are at adds;
  is_index = index-more order n c old new are.is_index at next adds;
}

-- a call whose number isn't its client's next
pub unnumbered : {A : Type 0} (order : List (Call A)) (n : ℕ) (c : Call A) (index : BTreeMap ℕ (Vec ℕ A)) → IsIndexed order n index
    → IsCallAt order n c → (c.number ≡ length (places_of index c.client) + 1 → ⊥) → IsTrue false ↔ IsNumbered order
unnumbered order n c index are at not_next = (
  λ so. absurd (cc so),
  λ numbered. absurd (not_next (numbered n c at ∙ ap (λ m. m + 1) (sym (are.counts c.client)))),
)

pub all_numbered : {A : Type 0} (order : List (Call A)) (n : ℕ) (index : BTreeMap ℕ (Vec ℕ A)) → IsIndexed order n index
    → length order ≤ n → IsTrue true ↔ IsNumbered order
all_numbered order n index are all =
    (λ _ p c at. are.numbered p c (omega (arith, all, slice_get_within order p c at)) at, λ _. refl)

-- two places with one name are equal
pub index-once : {A : Type 0} (order : List (Call A)) (index : BTreeMap ℕ (Vec ℕ A)) (p q : ℕ) (c : Call A) → IsIndexOf order (length order) index
    → IsCallAt order p c → IsCallAt order q c → p ≡ q
index-once order index p q c is_index at there =
    let first = is_index.finds p c (slice_get_within order p c at) at in
    let second = is_index.finds q c (slice_get_within order q c there) there in
    let one : Some p ≡ Some q = sym first ∙ second in
    cc one

-- ---- the place of a call, by the index

-- the index has another operation there
pub place-other : {A : Type 0} (order : List (Call A)) (index : BTreeMap ℕ (Vec ℕ A)) (p : ℕ) (c d : Call A) → IsIndexOf order (length order) index
    → place_at index (c.client, c.number) ≡ Some p → IsCallAt order p d → is_same c d ≡ false → None ≡ place_in order c
place-other order index p c d is_index is at differ =
    elim (none_or_some (place_in order c)) as (λ _. None ≡ place_in order c) [
      | inl none ↦ sym none
      | inr some ↦
          let there = place_in-stands order c some.0 some.1 in
          let second = is_index.finds some.0 c (slice_get_within order some.0 c there) there in
          let place : Some some.0 ≡ Some p = sym second ∙ is in
          let same : some.0 ≡ p = cc place in
          let one : Some c ≡ Some d = sym there ∙ ap (slice_get order) same ∙ at in
          let call : c ≡ d = cc one in
          absurd (cc (ap (is_same c) (sym call) ∙ is_same-self c, differ))
    ]

-- the index has no such name
pub place-none : {A : Type 0} (order : List (Call A)) (index : BTreeMap ℕ (Vec ℕ A)) (c : Call A) → IsIndexOf order (length order) index
    → place_at index (c.client, c.number) ≡ None → None ≡ place_in order c
place-none order index c is_index is =
    elim (none_or_some (place_in order c)) as (λ _. None ≡ place_in order c) [
      | inl none ↦ sym none
      | inr some ↦
          let there = place_in-stands order c some.0 some.1 in
          absurd (cc (is_index.finds some.0 c (slice_get_within order some.0 c there) there, is))
    ]

-- the call is there
pub place-found : {A : Type 0} (order : List (Call A)) (index : BTreeMap ℕ (Vec ℕ A)) (p : ℕ) (c d : Call A) → IsIndexOf order (length order) index
    → IsCallAt order p d → is_same c d ≡ true → Some p ≡ place_in order c
place-found order index p c d is_index at same =
    let stands : IsCallAt order p c = at ∙ ap Some (is_same-true c d same) in
    let least = place_in-least order c p stands in
    let place = index-once order index p least.0 c is_index stands (place_in-stands order c least.0 least.1) in
    ap Some place ∙ sym least.1
