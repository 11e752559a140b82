-- The steps of the gauge keep its invariant.
use Rattle.std.proofs.Common.{◌≡◌, ℕ, zero, suc, ◌<◌, ◌≤◌, ◌++◌, ◌==◌, ◌⊎◌, Bool, true, false, List, [], ◌∷◌, Some, None, Option, length, refl, ap, subst, sym}
use Rattle.std.proofs.Common.{◌∙◌, inl, inr, arith, max, cond, slice_index, set, length-set, get_or-set_same, get_or-set_other, nat_le, eq-eqb, replicate}
use Rattle.std.proofs.lemmas.Bool.Decides.{nat_tests}
use mathlib.Core.Option.{some, none, some-injective, some-ne-none}
use Rattle.std.proofs.lemmas.List.{set-get_or, length-replicate}
use lib.ListN.{get_elem?}
use Rattle.atomic_table.proofs.Lists.{at_set}
use Rattle.atomic_table.specs.Table.{Me, Allows, step, keeps, Splits}
use Rattle.ring_base.specs.ListMembership.{IsIn}
use Rattle.ring_base.specs.Numbers.{greatest}
use Rattle.ring_base.proofs.ListPlaces.{zero_at, greatest-push}
use Rattle.ring_seat.specs.declared.gauge_rule.GaugeView.{GaugeView}
use Rattle.ring_seat.specs.Gauges.{IsZeroOrIn, last_seen_by, Fits, IsGaugeRising, IsGaugeState, view_after_publish, view_after_look, HasPublished, HasLooked, maker_after_seat, own_seat, foreign_seat}
use Rattle.ring_seat.specs.Gauges.{first_view}

greater_in : (x : ℕ) (xs : List ℕ) (b : Bool) → nat_le x (greatest xs) ≡ b → IsZeroOrIn (greatest xs) xs → IsZeroOrIn (max x (greatest xs)) (x ∷ xs)
greater_in x xs false e h = inr (inl (let h : greatest xs ≤ x = grind (arith, nat_tests) in omega arith))
greater_in x xs true e h =
    let le : x ≤ greatest xs = grind (arith, nat_tests) in
    let m : max x (greatest xs) ≡ greatest xs = omega arith in
    elim h [ inl w ↦ inl (m ∙ w) | inr w ↦ inr (inr (subst (λ (n : ℕ). IsIn n xs) (sym m) w)) ]

greatest_in : (xs : List ℕ) → IsZeroOrIn (greatest xs) xs
greatest_in [] = inl refl
greatest_in (x ∷ xs) = greater_in x xs (nat_le x (greatest xs)) refl (greatest_in xs)

in_more : (n k : ℕ) (xs : List ℕ) → IsIn n xs → IsIn n (xs ++ k ∷ [])
in_more n k [] h = absurd h
in_more n k (x ∷ xs) h = elim h [ inl w ↦ inl w | inr w ↦ inr (in_more n k xs w) ]

zero_or_in_more : (n k : ℕ) (xs : List ℕ) → IsZeroOrIn n xs → IsZeroOrIn n (xs ++ k ∷ [])
zero_or_in_more n k xs h = elim h [ inl w ↦ inl w | inr w ↦ inr (in_more n k xs w) ]

-- the lists with one more number at i
abbrev with_one : (ℕ → List ℕ) → ℕ → ℕ → ℕ → List ℕ
with_one f i k j = cond (j == i) (f j ++ k ∷ []) (f j)

with_one_here : (f : ℕ → List ℕ) (i k j : ℕ) → j ≡ i → with_one f i k j ≡ f j ++ k ∷ []
with_one_here f i k j e = ap (λ (b : Bool). cond b (f j ++ k ∷ []) (f j)) (eq-eqb j i e)

with_one_else : (f : ℕ → List ℕ) (i k j : ℕ) → (j ≡ i → ⊥) → with_one f i k j ≡ f j
with_one_else f i k j apart = let b : (j == i) ≡ false = grind (arith, nat_tests) in ap (λ (b : Bool). cond b (f j ++ k ∷ []) (f j)) b

zero_or_in_with : (f : ℕ → List ℕ) (i k j n : ℕ) (b : Bool) → (j == i) ≡ b → IsZeroOrIn n (f j) → IsZeroOrIn n (with_one f i k j)
zero_or_in_with f i k j n true e h = rw e (zero_or_in_more n k (f j) h)
zero_or_in_with f i k j n false e h = rw e h

-- a view that has looked
look_fits : (words : List ℕ) (lists : ℕ → List ℕ) (seat : ℕ → Option ℕ) (maker id i : ℕ) (v : GaugeView) → slice_index words i ≡ greatest (lists i)
    → Fits words lists seat maker id v → Fits words lists seat maker id (view_after_look v i (slice_index words i))
look_fits words lists seat maker id i v word f = record {
  own = f.own;
  seen = λ j. by_test j (i == j) refl;
  is_maker = f.is_maker;
}
  where
    by_test : (j : ℕ) (b : Bool) → (i == j) ≡ b → IsZeroOrIn (cond b (slice_index words i) (last_seen_by v j)) (lists j) × (cond b (slice_index words i) (last_seen_by v j) ≤ slice_index words j)
    by_test j false e = f.seen j
    by_test j true e =
        let same : i ≡ j = grind (arith, nat_tests) in
        subst (λ (k : ℕ). IsZeroOrIn (slice_index words i) (lists k) × (slice_index words i ≤ slice_index words k)) same
        (subst (λ (n : ℕ). IsZeroOrIn n (lists i)) (sym word) (greatest_in (lists i)), omega arith)

look_rises : (words : List ℕ) (views : List GaugeView) (id i : ℕ) (v : GaugeView) → IsGaugeRising words views → get_elem? views id ≡ some v → IsGaugeRising words (set views id (view_after_look v i (slice_index words i)))
look_rises words views id i v r at = record {
  lists = r.lists;
  seat = r.seat;
  maker = r.maker;
  word = r.word;
  each = λ j w h. elim (at_set views id j (view_after_look v i (slice_index words i)) w h) [
    | inl c ↦ rw (c.0, ← c.1) (look_fits words r.lists r.seat r.maker id i v (r.word i) (r.each id v at))
    | inr c ↦ r.each j w c.1
  ];
}

pub look_allows : (slots id i : ℕ) (me : Me ℕ GaugeView) → Allows IsGaugeState slots id me i (λ n. n) (HasLooked (step slots i 0 0 none) me)
look_allows slots id i me s h len at small =
    let same : set s.words i (slice_index s.words i) ≡ s.words = set-get_or s.words i 0 in
    let f = h.each id me.0 at in (
      view_after_look me.0 i (slice_index s.words i),
      keeps,
      tt,
      rw same (look_rises s.words s.views id i me.0 h at),
      (refl, refl, (f.seen i).1, λ o n. exact o n),
    )
  where
    exact : me.0.is_own_seat ≡ true → me.0.word ≡ i → slice_index s.words i ≡ greatest me.0.published
    exact o n = let f = h.each id me.0 at in h.word i ∙ (ap (λ (k : ℕ). greatest (h.lists k)) (sym n) ∙ ap greatest (sym (f.own o).1))

-- a word that rose
word_rises : (words : List ℕ) (i n j : ℕ) → i < length words → slice_index words i ≤ n → slice_index words j ≤ slice_index (set words i n) j
word_rises words i n j lt le = by_test (j == i) refl
  where
    by_test : (b : Bool) → (j == i) ≡ b → slice_index words j ≤ slice_index (set words i n) j
    by_test true e =
        let same : j ≡ i = grind (arith, nat_tests) in
        rw (same, get_or-set_same words i n 0 lt) le
    by_test false e =
        let apart : j ≡ i → ⊥ = grind (arith, nat_tests) in
        rw (get_or-set_other words i j n 0 apart) (omega arith)

-- a view among views of which one has published
published_fits : (words : List ℕ) (lists : ℕ → List ℕ) (seat : ℕ → Option ℕ) (maker i k j : ℕ) (u : GaugeView) (owner_id : ℕ) → i < length words → seat i ≡ Some owner_id
    → ((n : ℕ) → IsZeroOrIn (last_seen_by u n) (lists n) × (last_seen_by u n ≤ slice_index words n))
    → (u.is_maker ≡ true → (j ≡ maker) × (u.count ≡ length words) × ((n : ℕ) → u.seated_nodes ≤ n → (seat n ≡ None) × (lists n ≡ [])))
    → (u.is_own_seat ≡ true → (seat u.word ≡ Some j) × (u.published ≡ with_one lists i k u.word) × (u.word < length words))
    → Fits (set words i (max (slice_index words i) k)) (with_one lists i k) seat maker j u
published_fits words lists seat maker i k j u owner_id lt seat_is seen is_maker own = record {
  own = λ o. (let a = own o in (a.0, a.1, rw length-set a.2));
  seen = λ n. (let up : slice_index words i ≤ max (slice_index words i) k = omega arith in let more = word_rises words i (max (slice_index words i) k) n lt up in let old = seen n in
      (zero_or_in_with lists i k n (last_seen_by u n) (n == i) refl old.0, omega (arith, old.1, more)));
  is_maker = λ m. (let a = is_maker m in (a.0, a.1 ∙ sym (length-set words i (max (slice_index words i) k)), λ n h. (let b = a.2 n h in let apart : n ≡ i → ⊥ = (λ e. let c = ap seat e in let d = b.0 in cc) in (b.0, with_one_else lists i k n apart ∙ b.1))));
}

publish_word : (words : List ℕ) (lists : ℕ → List ℕ) (i k j : ℕ) (b : Bool) → (j == i) ≡ b → i < length words → ((n : ℕ) → slice_index words n ≡ greatest (lists n))
    → slice_index (set words i (max (slice_index words i) k)) j ≡ greatest (with_one lists i k j)
publish_word words lists i k j true e lt word =
    let same : j ≡ i = grind (arith, nat_tests) in
    let a = get_or-set_same words i (max (slice_index words i) k) 0 lt in
    let c = greatest-push (lists i) k in
    ap (λ (n : ℕ). slice_index (set words i (max (slice_index words i) k)) n) same
    ∙ (a ∙ (ap (λ (n : ℕ). max n k) (word i) ∙ (sym c ∙ (ap (λ (n : ℕ). greatest (lists n ++ k ∷ [])) (sym same) ∙ ap greatest (sym (with_one_here lists i k j same))))))
publish_word words lists i k j false e lt word =
    let apart : j ≡ i → ⊥ = grind (arith, nat_tests) in
    get_or-set_other words i j (max (slice_index words i) k) 0 apart ∙ (word j ∙ ap greatest (sym (with_one_else lists i k j apart)))

publish_rises : (words : List ℕ) (views : List GaugeView) (id i k : ℕ) (v : GaugeView) → IsGaugeRising words views → get_elem? views id ≡ some v → v.is_own_seat ≡ true → v.word ≡ i
    → IsGaugeRising (set words i (max (slice_index words i) k)) (set views id (view_after_publish v k))
publish_rises words views id i k v r at o n =
    let fv = r.each id v at in
    let lt : i < length words = subst (λ (x : ℕ). x < length words) n (fv.own o).2 in
    let seat_is : r.seat i ≡ Some id = ap r.seat (sym n) ∙ (fv.own o).0 in
    record {
      lists = with_one r.lists i k;
      seat = r.seat;
      maker = r.maker;
      word = λ j. publish_word words r.lists i k j (j == i) refl lt r.word;
      each = λ j w h. elim (at_set views id j (view_after_publish v k) w h) [
        | inl c ↦ rw (c.0, ← c.1) (published_fits words r.lists r.seat r.maker i k id (view_after_publish v k) id lt seat_is fv.seen fv.is_maker
            (λ _. ((fv.own o).0, ap (λ xs. xs ++ k ∷ []) (fv.own o).1 ∙ sym (with_one_here r.lists i k v.word n), (fv.own o).2)))
        | inr c ↦ (let f = r.each j w c.1 in published_fits words r.lists r.seat r.maker i k j w id lt seat_is f.seen f.is_maker
            (λ q. (let a = f.own q in let apart : w.word ≡ i → ⊥ = (λ e. let x = ap r.seat e in let y = a.0 in let same : j ≡ id = cc in c.0 same) in (a.0, a.1 ∙ sym (with_one_else r.lists i k w.word apart), a.2))))
      ];
    }

pub publish_allows : (slots id i k : ℕ) (me : Me ℕ GaugeView) → me.0.is_own_seat ≡ true → me.0.word ≡ i
    → Allows IsGaugeState slots id me i (λ n. max n k) (HasPublished (step slots i k 0 none) me)
publish_allows slots id i k me o n s h len at small = (view_after_publish me.0 k, keeps, tt, publish_rises s.words s.views id i k me.0 h at o n, (refl, refl))

at_snoc_or : {A : Type 0} (l : List A) (a b : A) (j : ℕ) → get_elem? (l ++ a ∷ []) j ≡ some b → (get_elem? l j ≡ some b) ⊎ ((j ≡ length l) × (a ≡ b))
at_snoc_or [] a b zero e = inr (refl, some-injective a b e)
at_snoc_or [] a b (suc j) e = absurd (some-ne-none b (sym e))
at_snoc_or (x ∷ xs) a b zero e = inl e
at_snoc_or (x ∷ xs) a b (suc j) e = elim (at_snoc_or xs a b j e) [ inl w ↦ inl w | inr w ↦ inr (ap suc w.0, w.1) ]

-- the seats, with that of one more node
abbrev seat_with : (ℕ → Option ℕ) → ℕ → ℕ → ℕ → Option ℕ
seat_with f i id j = cond (j == i) (Some id) (f j)

seat_with_here : (f : ℕ → Option ℕ) (i id : ℕ) → seat_with f i id i ≡ Some id
seat_with_here f i id = ap (λ (b : Bool). cond b (Some id) (f i)) (eq-eqb i i refl)

seat_with_else : (f : ℕ → Option ℕ) (i id j : ℕ) → (j ≡ i → ⊥) → seat_with f i id j ≡ f j
seat_with_else f i id j apart = let b : (j == i) ≡ false = grind (arith, nat_tests) in ap (λ (b : Bool). cond b (Some id) (f j)) b

-- a view after one more node got a seat
seated_fits : (words : List ℕ) (lists : ℕ → List ℕ) (seat : ℕ → Option ℕ) (maker i new j : ℕ) (u : GaugeView) → seat i ≡ None
    → (u.is_own_seat ≡ true → (seat u.word ≡ Some j) × (u.published ≡ lists u.word) × (u.word < length words))
    → ((n : ℕ) → IsZeroOrIn (last_seen_by u n) (lists n) × (last_seen_by u n ≤ slice_index words n))
    → (u.is_maker ≡ true → (j ≡ maker) × (u.count ≡ length words) × ((n : ℕ) → u.seated_nodes ≤ n → (seat n ≡ None) × (lists n ≡ []) × (n ≡ i → ⊥)))
    → Fits words lists (seat_with seat i new) maker j u
seated_fits words lists seat maker i new j u free own seen is_maker = record {
  own = λ o. (let a = own o in let apart : u.word ≡ i → ⊥ = (λ e. let x = ap seat e in let y = a.0 in cc) in (seat_with_else seat i new u.word apart ∙ a.0, a.1, a.2));
  seen = seen;
  is_maker = λ m. (let a = is_maker m in (a.0, a.1, λ n h. (let b = a.2 n h in (seat_with_else seat i new n b.2 ∙ b.0, b.1))));
}

pub owner_splits : (id : ℕ) (v : GaugeView) → v.is_maker ≡ true → v.seated_nodes < v.count → Splits IsGaugeState id v (maker_after_seat v) (own_seat v)
owner_splits id v m room s h at =
    let f = h.each id v at in
    let a = f.is_maker m in
    let free = a.2 v.seated_nodes (omega arith) in
    record {
      lists = h.lists;
      seat = seat_with h.seat v.seated_nodes (length (set s.views id (maker_after_seat v)));
      maker = h.maker;
      word = h.word;
      each = λ j w e. elim (at_snoc_or (set s.views id (maker_after_seat v)) (own_seat v) w j e) [
        | inl c ↦ elim (at_set s.views id j (maker_after_seat v) w c) [
          | inl d ↦ rw (d.0, ← d.1) (seated_fits s.words h.lists h.seat h.maker v.seated_nodes _ id (maker_after_seat v) free.0 f.own f.seen
              (λ _. (a.0, a.1, λ n le. (let b = a.2 n (omega arith) in (b.0, b.1, λ x. omega arith)))))
          | inr d ↦ (let g = h.each j w d.1 in seated_fits s.words h.lists h.seat h.maker v.seated_nodes _ j w free.0 g.own g.seen
              (λ q. (let b = g.is_maker q in absurd (d.0 (b.0 ∙ sym a.0)))))
        ]
        | inr c ↦ rw (c.0, ← c.1) record {
          own = λ _. (seat_with_here h.seat v.seated_nodes _, sym free.1, omega (arith, a.1));
          seen = λ n. (inl refl, omega arith);
          is_maker = λ q. cc;
        }
      ];
    }

pub guest_splits : (id : ℕ) (v : GaugeView) → Splits IsGaugeState id v v (foreign_seat v)
guest_splits id v s h at = record {
  lists = h.lists;
  seat = h.seat;
  maker = h.maker;
  word = h.word;
  each = λ j w e. elim (at_snoc_or (set s.views id v) (foreign_seat v) w j e) [
    | inl c ↦ elim (at_set s.views id j v w c) [ inl d ↦ rw (d.0, ← d.1) (h.each id v at) | inr d ↦ h.each j w d.1 ]
    | inr c ↦ rw (← c.1) record { own = λ o. cc; seen = λ n. (inl refl, omega arith); is_maker = λ q. cc }
  ];
}

pub first_rises : (n : ℕ) → IsGaugeRising (replicate n 0) (first_view n ∷ [])
first_rises n = record {
  lists = λ _. [];
  seat = λ _. None;
  maker = 0;
  word = λ i. zero_at n i;
  each = λ j w e. elim (at_snoc_or [] (first_view n) w j e) [
    | inl c ↦ absurd (some-ne-none w (sym c))
    | inr c ↦ rw (c.0, ← c.1) record { own = λ o. cc; seen = λ i. (inl refl, omega arith); is_maker = λ _. (refl, sym (length-replicate n 0), λ i h. (refl, refl)) }
  ];
}
