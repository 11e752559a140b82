-- Delivered messages ascend.
use Rattle.std.proofs.Common.{◌≡◌, ℕ, zero, suc, ◌+◌, ◌<◌, ◌≤◌, Bool, List, [], ◌∷◌, ◌++◌, Option, Some, None, refl, arith}
use Rattle.std.specs.Prelude.{filter, filter_map, nat_lt}
use Rattle.std.specs.List.{AllByRecursion as Each, cons_option}
use Rattle.std.proofs.lemmas.Bool.{cond_both, ltb-true}
use Rattle.ring_base.specs.Numbers.{window_size, numbers_from}
use Rattle.ring_base.specs.declared.ring_id.RingId.{RingId}
use Rattle.ring_base.proofs.Each.{each-weaker, each-append, each-filter, each-filter_map}
use Rattle.ring_payload.specs.PayloadKinds.{is_user}
use Rattle.ring_wire.specs.declared.message.Message.{Message}
use Rattle.ring_core_spec.specs.Windows.{found}
use Rattle.ring_core_spec.specs.Recoveries.{Plan, safe, is_known, gap, known_above_safe, is_from_transitional_member, transitional_part, past_gap_part, rest_messages}
use Rattle.ring_core_proof.proofs.InLists.{each-in, numbers-above, in-filtered}
use Rattle.ring_synchrony_proof.specs.Synchrony.{IsBefore, Ascend}
use Rattle.ring_synchrony_proof.proofs.LifeAfterStep.{heard}
use Rattle.ring_synchrony_proof.proofs.UserMessages.{found_as}

-- Ascending numbers

abbrev pub AreRising : List ℕ → Type 0
AreRising [] = Unit {0}
AreRising (n ∷ ns) = Each (λ m. n < m) ns × AreRising ns

numbers_rise : (first count : ℕ) → AreRising (numbers_from first count)
numbers_rise first zero = tt
numbers_rise first (suc count) = (numbers-above (suc first) count, numbers_rise (suc first) count)

filter_rise : (p : ℕ → Bool) (ns : List ℕ) → AreRising ns → AreRising (filter p ns)
filter_rise p [] h = tt
filter_rise p (n ∷ ns) h =
    cond_both (p n) (n ∷ filter p ns) (filter p ns) AreRising (λ e. (each-filter (λ m. n < m) p ns h.0, filter_rise p ns h.1)) (λ e. filter_rise p ns h.1)

append_rise : (ms ns : List ℕ) → AreRising ms → AreRising ns → Each (λ m. Each (λ n. m < n) ns) ms → AreRising (ms ++ ns)
append_rise [] ns a b h = b
append_rise (m ∷ ms) ns a b h = (each-append (λ n. m < n) ms ns a.0 h.0, append_rise ms ns a.1 b h.1)

-- Messages found at them

filter_ascends : {A : Type 0} → (p : Message A → Bool) (xs : List (Message A)) → Ascend xs → Ascend (filter p xs)
filter_ascends p [] h = tt
filter_ascends {A} p (x ∷ xs) h =
    cond_both (p x) (x ∷ filter p xs) (filter p xs) Ascend (λ e. (each-filter (IsBefore x) p xs h.0, filter_ascends p xs h.1)) (λ e. filter_ascends p xs h.1)

found_ascend : {A : Type 0} → (held : List (Message A)) (ring : RingId) (ns : List ℕ) → AreRising ns → Ascend (filter_map (found held ring) ns)
found_ascend held ring [] h = tt
found_ascend {A} held ring (n ∷ ns) h = more (found held ring n) (λ x e. (found_as held ring n x e).number_is) (found_ascend held ring ns h.1)
  where
    more : (o : Option (Message A)) → ((x : Message A) → o ≡ Some x → x.number ≡ n)
        → Ascend (filter_map (found held ring) ns) → Ascend (cons_option o (filter_map (found held ring) ns))
    more None f a = a
    more (Some x) f a = (
      each-filter_map (λ m. n < m) (IsBefore x) (found held ring)
          (λ m y l e r. (let p = f x refl in let q = (found_as held ring m y e).number_is in omega (arith, p, q, l)))
          ns h.0,
      a,
    )

pub heard_ascends : {A : Type 0} → (held : List (Message A)) (ring : RingId) (first count : ℕ) → Ascend (heard (found held ring) first count)
heard_ascends {A} held ring first count =
    filter_ascends (λ (x : Message A). is_user x.payload) (filter_map (found held ring) (numbers_from first count))
    (found_ascend held ring (numbers_from first count) (numbers_rise first count))

-- The rest

pub rest_ascends : {A : Type 0} → (p : Plan) (held : List (Message A)) → Ascend (rest_messages p held)
rest_ascends {A} p held =
    let known = filter_rise (is_known p) (numbers_from (safe p + 1) window_size) (numbers_rise (safe p + 1) window_size) in
    let low = filter_rise (λ n. nat_lt n (gap p)) (known_above_safe p) known in
    let high = filter_rise (is_from_transitional_member p held) (filter (nat_lt (gap p)) (known_above_safe p)) (filter_rise (nat_lt (gap p)) (known_above_safe p) known) in
    let cross : Each (λ m. Each (λ n. m < n) (past_gap_part p held)) (transitional_part p) =
    each-in (λ m. Each (λ n. m < n) (past_gap_part p held)) (transitional_part p) (λ m i. each-in (λ n. m < n) (past_gap_part p held) (λ n j.
    let a = ltb-true m (gap p) (in-filtered (λ n. nat_lt n (gap p)) m (known_above_safe p) i).1 in
    let b = ltb-true (gap p) n (in-filtered (nat_lt (gap p)) n (known_above_safe p)
    (in-filtered (is_from_transitional_member p held) n (filter (nat_lt (gap p)) (known_above_safe p)) j).0).1 in
    omega (arith, a, b))) in
    filter_ascends (λ (x : Message A). is_user x.payload) (filter_map (found held p.old) (transitional_part p ++ past_gap_part p held))
    (found_ascend held p.old (transitional_part p ++ past_gap_part p held) (append_rise (transitional_part p) (past_gap_part p held) low high cross))

-- the rest is above the greatest mark
pub rest_above : {A : Type 0} → (p : Plan) (held : List (Message A)) → Each (λ (x : Message A). (x.ring ≡ p.old) × (safe p < x.number)) (rest_messages p held)
rest_above {A} p held =
    let ns = transitional_part p ++ past_gap_part p held in
    let known : Each (λ n. safe p < n) (known_above_safe p) = each-filter (λ n. safe p < n) (is_known p)
    (numbers_from (safe p + 1) window_size) (each-weaker (λ n. safe p + 1 ≤ n) (λ n. safe p < n)
    (λ n l. omega (arith, l)) (numbers_from (safe p + 1) window_size) (numbers-above (safe p + 1) window_size)) in
    let all : Each (λ n. safe p < n) ns =
    each-append (λ n. safe p < n) (transitional_part p) (past_gap_part p held)
    (each-filter (λ n. safe p < n) (λ n. nat_lt n (gap p)) (known_above_safe p) known)
    (each-filter (λ n. safe p < n) (is_from_transitional_member p held) (filter (nat_lt (gap p)) (known_above_safe p))
    (each-filter (λ n. safe p < n) (nat_lt (gap p)) (known_above_safe p) known)) in
    each-filter (λ (x : Message A). (x.ring ≡ p.old) × (safe p < x.number)) (λ (x : Message A). is_user x.payload) (filter_map (found held p.old) ns)
    (each-filter_map (λ n. safe p < n) (λ (x : Message A). (x.ring ≡ p.old) × (safe p < x.number)) (found held p.old)
    (λ n x l e. (let f = found_as held p.old n x e in let q = f.number_is in (f.ring_is, omega (arith, l, q)))) ns all)

-- One list after another

pub append_ascends : {A : Type 0} → (xs ys : List (Message A)) → Ascend xs → Ascend ys → Each (λ (x : Message A). Each (IsBefore x) ys) xs → Ascend (xs ++ ys)
append_ascends [] ys a b h = b
append_ascends (x ∷ xs) ys a b h = (each-append (IsBefore x) xs ys a.0 h.0, append_ascends xs ys a.1 b h.1)
