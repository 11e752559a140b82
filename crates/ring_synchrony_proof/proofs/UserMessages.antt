-- Lists of delivered messages of a ring: those up to a number, and those of a plan's rest.
use Rattle.std.proofs.Common.{◌≡◌, ℕ, zero, suc, ◌+◌, ◌-◌, ◌<◌, ◌≤◌, ◌⊎◌, inl, inr, Bool, true, false, ◌==◌, List, []}
use Rattle.std.proofs.Common.{◌∷◌, ◌++◌, Option, Some, refl, ap, sym, ◌∙◌, subst, arith, append-nil}
use Rattle.std.specs.Prelude.{filter, filter_map, nat_le, nat_lt}
use Rattle.std.specs.List.{AllByRecursion as Each, prefix_len}
use Rattle.std.proofs.lemmas.Bool.{cond_both, cond-true, cond-false, cases_order, and_parts, both_ways, eqb-true, le-leb, lt-leb, lt-ltb}
use Rattle.std.proofs.lemmas.List.Elements.{filter-append}
use Rattle.ring_base.specs.Numbers.{window_size, numbers_from}
use Rattle.ring_base.specs.Processors.{has}
use Rattle.ring_base.specs.Rings.{same_ring}
use Rattle.ring_base.specs.declared.ring_id.RingId.{RingId}
use Rattle.ring_base.proofs.Each.{each-weaker, each-filter, each-filter_map}
use Rattle.ring_payload.specs.PayloadKinds.{is_user}
use Rattle.ring_wire.specs.declared.message.Message.{Message}
use Rattle.ring_core_spec.specs.Windows.{is_numbered, found}
use Rattle.ring_base.proofs.SameRing.{ring_same}
use Rattle.ring_core_spec.specs.Recoveries.{Plan, safe, low, is_known, gap, known_above_safe}
use Rattle.ring_core_spec.specs.Recoveries.{is_from_transitional_member_if_there, is_from_transitional_member, transitional_part, past_gap_part, rest_messages}
use Rattle.ring_core_proof.specs.FactWords.{IsIn}
use Rattle.ring_core_proof.proofs.InLists.{in-left, in-right, each-in, find-in, in-filter, in-numbers, in-filter_map}
use Rattle.ring_synchrony_proof.proofs.Quantified.{numbers_in}
use Rattle.ring_synchrony_proof.proofs.LifeAfterStep.{heard, heard_more}

-- A message that is found has its number

pub record IsFoundAs {A : Type 0} (held : List (Message A)) (ring : RingId) (n : ℕ) (x : Message A) : Type 0 where
  pub there : IsIn x held
  pub ring_is : x.ring ≡ ring
  pub number_is : x.number ≡ n

pub found_as : {A : Type 0} → (held : List (Message A)) (ring : RingId) (n : ℕ) (x : Message A) → found held ring n ≡ Some x → IsFoundAs held ring n x
found_as held ring n x e =
    let f = find-in (is_numbered ring n) x held e in
    let p = and_parts (same_ring x.ring ring) (x.number == n) f.1 in
    record { there = f.0; ring_is = ring_same x.ring ring p.0; number_is = eqb-true x.number n p.1 }

-- Up to a number

abbrev Between : {A : Type 0} → ℕ → ℕ → Message A → Type 0
Between first count x = (first ≤ x.number) × (x.number < first + count)

heard_between : {A : Type 0} → (held : List (Message A)) (ring : RingId) (first count : ℕ)
    → Each (λ (x : Message A). Between first count x) (heard (found held ring) first count)
heard_between {A} held ring first count =
    each-filter (λ (x : Message A). Between first count x) (λ (x : Message A). is_user x.payload) (filter_map (found held ring) (numbers_from first count))
    (each-filter_map (λ n. (first ≤ n) × (n < first + count)) (λ (x : Message A). Between first count x) (found held ring)
    (λ n x p e. (let q : x.number ≡ n = (found_as held ring n x e).number_is in subst (λ k. (first ≤ k) × (k < first + count)) (sym q) p))
    (numbers_from first count) (each-in (λ n. (first ≤ n) × (n < first + count)) (numbers_from first count) (λ n i. numbers_in n first count i)))

filter_all : {X : Type 0} (p : X → Bool) (xs : List X) → Each (λ x. p x ≡ true) xs → filter p xs ≡ xs
filter_all p [] h = refl
filter_all p (x ∷ xs) h = cond-true (p x) (x ∷ filter p xs) (filter p xs) h.0 ∙ ap (λ ys. x ∷ ys) (filter_all p xs h.1)

filter_none : {X : Type 0} (p : X → Bool) (xs : List X) → Each (λ x. p x ≡ false) xs → filter p xs ≡ []
filter_none p [] h = refl
filter_none p (x ∷ xs) h = cond-false (p x) (x ∷ filter p xs) (filter p xs) h.0 ∙ filter_none p xs h.1

-- of the messages that the front covers, those up to the mark
pub heard_upto : {A : Type 0} → (held : List (Message A)) (ring : RingId) (m f : ℕ) → m ≤ f →
    filter (λ (x : Message A). nat_le x.number m) (heard (found held ring) 1 f) ≡ heard (found held ring) 1 m
heard_upto {A} held ring m f l =
    let get = found held ring in
    let test : Message A → Bool = λ x. nat_le x.number m in
    let parts : m + (f - m) ≡ f = omega (arith, l) in
    let low : filter test (heard get 1 m) ≡ heard get 1 m =
    filter_all test (heard get 1 m) (each-weaker (λ (x : Message A). Between 1 m x) (λ (x : Message A). test x ≡ true)
    (λ x b. le-leb x.number m (omega (arith, b.1))) (heard get 1 m) (heard_between held ring 1 m)) in
    let high : filter test (heard get (1 + m) (f - m)) ≡ [] =
    filter_none test (heard get (1 + m) (f - m)) (each-weaker (λ (x : Message A). Between (1 + m) (f - m) x)
    (λ (x : Message A). test x ≡ false) (λ x b. lt-leb x.number m (omega (arith, b.0))) (heard get (1 + m) (f - m))
    (heard_between held ring (1 + m) (f - m))) in
    ap (λ n. filter test (heard get 1 n)) (sym parts) ∙ ap (filter test) (sym (heard_more get m (f - m)))
    ∙ filter-append test (heard get 1 m) (heard get (1 + m) (f - m))
    ∙ ap (λ xs. xs ++ filter test (heard get (1 + m) (f - m))) low ∙ ap (λ xs. heard get 1 m ++ xs) high ∙ append-nil (heard get 1 m)

-- The messages of such a list

pub in_heard : {A : Type 0} → (get : ℕ → Option (Message A)) (ns : List ℕ) (n : ℕ) (x : Message A) → IsIn n ns → get n ≡ Some x → is_user x.payload ≡ true →
    IsIn x (filter (λ (x : Message A). is_user x.payload) (filter_map get ns))
in_heard {A} get ns n x h e u = in-filter (λ (x : Message A). is_user x.payload) x (filter_map get ns) (in-filter_map get n x ns h e) u

-- No transitional member holds the gap

prefix_stops : (p : ℕ → Bool) (first count : ℕ) → p (first + prefix_len p (numbers_from first count)) ≡ true → count ≤ prefix_len p (numbers_from first count)
prefix_stops p first zero h = omega arith
prefix_stops p first (suc count) h =
    let rest = prefix_len p (numbers_from (suc first) count) in
    cond_both (p first) (1 + rest) 0 (λ n. p (first + n) ≡ true → suc count ≤ n)
    (λ t k. (let e : first + (1 + rest) ≡ suc first + rest = omega arith in let l : count ≤ rest = prefix_stops p
    (suc first) count (subst (λ n. p n ≡ true) e k) in omega (arith, l)))
    (λ f k. (let e : first + 0 ≡ first = omega arith in absurd (both_ways (p first) f (subst (λ n. p n ≡ true) e k)))) h

pub gap_unknown : (p : Plan) → ((n : ℕ) → is_known p n ≡ true → n ≤ safe p + window_size) → safe p ≤ low p → is_known p (gap p) ≡ true → ⊥
gap_unknown p reach sound h =
    let q = prefix_len (is_known p) (numbers_from (low p + 1) window_size) in
    let all : window_size ≤ q = prefix_stops (is_known p) (low p + 1) window_size h in
    let end : low p + 1 + q ≤ safe p + window_size = reach (gap p) h in
    omega (arith, all, end, sound)

-- Messages of the rest

known_there : (p : Plan) (n : ℕ) → safe p < n → n ≤ safe p + window_size → is_known p n ≡ true → IsIn n (known_above_safe p)
known_there p n above within k = in-filter (is_known p) n (numbers_from (safe p + 1) window_size)
    (in-numbers (safe p + 1) window_size n (omega (arith, above)) (omega (arith, within))) k

-- a known message above the mark is in the rest, if it is below the gap or a transitional member sent it
pub in_rest : {A : Type 0} → (p : Plan) (held : List (Message A))
    → ((n : ℕ) → is_known p n ≡ true → n ≤ safe p + window_size) → safe p ≤ low p → (x : Message A) →
    found held p.old x.number ≡ Some x → is_user x.payload ≡ true → safe p < x.number → is_known p x.number ≡ true
    → (x.number < gap p) ⊎ (has p.transitional_members x.sender ≡ true) → IsIn x (rest_messages p held)
in_rest {A} p held reach sound x f u above k side =
    let n = x.number in
    let there = known_there p n above (reach n k) k in
    let below : n < gap p → IsIn n (transitional_part p ++ past_gap_part p held) =
    λ l. in-left n (transitional_part p) (past_gap_part p held) (in-filter (λ m. nat_lt m (gap p)) n (known_above_safe p) there (lt-ltb n (gap p) l)) in
    let past : gap p < n → has p.transitional_members x.sender ≡ true → IsIn n (transitional_part p ++ past_gap_part p held) =
    λ l m. in-right n (transitional_part p) (past_gap_part p held)
    (in-filter (is_from_transitional_member p held) n (filter (nat_lt (gap p)) (known_above_safe p))
    (in-filter (nat_lt (gap p)) n (known_above_safe p) there (lt-ltb (gap p) n l))
    (subst (λ (o : Option (Message A)). is_from_transitional_member_if_there p o ≡ true) (sym f) m)) in
    in_heard (found held p.old) (transitional_part p ++ past_gap_part p held) n x
    (elim (side) [
      | inl l ↦ below l
      | inr m ↦ elim (cases_order n (gap p)) [
        | inl e ↦ absurd (gap_unknown p reach sound (subst (λ k. is_known p k ≡ true) e k))
        | inr (inl l) ↦ below l
        | inr (inr l) ↦ past l m
      ]
    ]) f u
