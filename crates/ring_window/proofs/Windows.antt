-- The state kept of a window as it changes: nothing held, a message taken, numbers forgotten; and the meaning of its bits.
use Rattle.std.proofs.Common.{◌≡◌, ◌≢◌, ℕ, zero, suc, ◌++◌, ◌+◌, ◌-◌, ◌%◌, ◌<◌, ◌≤◌, Bool, true, false, max, List, []}
use Rattle.std.proofs.Common.{◌∷◌, length, Option, Some, None, refl, ap, ◌∙◌, sym, inl, inr, arith, get_or-set_same}
use Rattle.std.proofs.Common.{get_or-set_other, length-set}
use Rattle.std.specs.Prelude.{◌==◌, ◌&&◌, ◌||◌, not, nat_eq, nat_lt, nat_le, slice_index_or, slice_set}
use Rattle.std.specs.List.{list_any, find}
use Rattle.std.proofs.lemmas.Bool.{cases_lt, cases_eq, and_parts, and_from, or_parts, not-true, lt-ltb, le-ltb}
use Rattle.std.proofs.lemmas.Bool.{ltb-true, leb-true, eq-eqb, ne_eqb, cond-true, cond-false, both_ways}
use Rattle.ring_base.specs.Rings.{same_ring}
use Rattle.ring_base.specs.declared.ring_id.RingId.{RingId}
use Rattle.ring_base.proofs.Cases.{and-false}
use Rattle.ring_wire.specs.declared.message.Message.{Message}
use Rattle.ring_window.specs.Bits.{is_set, IsFirstClear}
use Rattle.ring_window.specs.Held.{is_numbered, found, holds, of_ring, highest, is_new, IsFrontIn}
use Rattle.ring_window.specs.Windows.{WindowHistory, window_opening, takes, message_above_mark}
use Rattle.ring_window.specs.Slots.{place_of, message_in_slot, IsWindow}
use Rattle.ring_window.proofs.HeldFront.{front_is, front_only, highest_covers}

-- ---- what is found is held

some-any : {X : Type 0} (p : X → Bool) (xs : List X) → list_any p xs ≡ false → find p xs ≡ None
some-any p [] h = refl
some-any p (x ∷ xs) h = (let b = or_parts (p x) (list_any p xs) h in rw (cond-false (p x) (Some x) (find p xs) b.0) (some-any p xs b.1))

pub found_none : {A : Type 0} (held : List (Message A)) (ring : RingId) (n : ℕ) → holds held ring n ≡ false → found held ring n ≡ None
found_none held ring n h = some-any (is_numbered ring n) held h

-- ---- with one message more

holds_more : {A : Type 0} (x : Message A) (held : List (Message A)) (ring : RingId) (n : ℕ) → same_ring x.ring ring ≡ true
    → holds (x ∷ held) ring n ≡ ((x.number == n) || holds held ring n)
holds_more x held ring n h = rw h refl

found_this : {A : Type 0} (x : Message A) (held : List (Message A)) (ring : RingId) → same_ring x.ring ring ≡ true → found (x ∷ held) ring x.number ≡ Some x
found_this x held ring h = cond-true (is_numbered ring x.number x) (Some x) (found held ring x.number)
    (and_from (same_ring x.ring ring) (x.number == x.number) h (eq-eqb x.number x.number refl))

found_other : {A : Type 0} (x : Message A) (held : List (Message A)) (ring : RingId) (n : ℕ) → x.number ≢ n → found (x ∷ held) ring n ≡ found held ring n
found_other x held ring n other = cond-false (is_numbered ring n x) (Some x) (found held ring n)
    (let e : (x.number == n) ≡ false = ne_eqb x.number n other in rw e (and-false (same_ring x.ring ring)))

holds_this : {A : Type 0} (x : Message A) (held : List (Message A)) (ring : RingId) → same_ring x.ring ring ≡ true → holds (x ∷ held) ring x.number ≡ true
holds_this x held ring h = holds_more x held ring x.number h ∙ ap (λ b. b || holds held ring x.number) (eq-eqb x.number x.number refl)

holds_other : {A : Type 0} (x : Message A) (held : List (Message A)) (ring : RingId) (n : ℕ) → same_ring x.ring ring ≡ true → x.number ≢ n
    → holds (x ∷ held) ring n ≡ holds held ring n
holds_other x held ring n h other = holds_more x held ring n h ∙ ap (λ b. b || holds held ring n) (ne_eqb x.number n other)

holds_still : {A : Type 0} (x : Message A) (held : List (Message A)) (ring : RingId) (n : ℕ) → same_ring x.ring ring ≡ true → holds held ring n ≡ true
    → holds (x ∷ held) ring n ≡ true
holds_still x held ring n same h = elim (cases_eq x.number n) [
  | inl e ↦ ap (λ k. holds (x ∷ held) ring k) (sym e) ∙ holds_this x held ring same
  | inr e ↦ holds_other x held ring n same e ∙ h
]

highest_more : {A : Type 0} (x : Message A) (held : List (Message A)) (ring : RingId) → same_ring x.ring ring ≡ true
    → highest (x ∷ held) ring ≡ max x.number (highest held ring)
highest_more x held ring h = rw (cond-true (same_ring x.ring ring) (x ∷ of_ring ring held) (of_ring ring held) h) refl

-- ---- the meaning of the bits

-- Up to the safe mark all is held.
pub holds_safe : {A : Type 0} (w : WindowHistory A) (front top : ℕ) (words : List ℕ) (places : List (Option (Message A)))
    → IsWindow w front top words places → (n : ℕ) → n ≤ w.mark → not (nat_eq n 0) ≡ holds w.held w.ring n
holds_safe w front top words places i n l = elim (cases_eq n 0) [
  | inl e ↦ rw (e) (sym i.none)
  | inr e ↦ rw (ne_eqb n 0 e) (sym ((front_is w.held w.ring).below n (omega arith) (omega (arith, i.safe, i.front_is))))
]

-- After the safe mark the bits say what is held.
pub holds_after : {A : Type 0} (w : WindowHistory A) (front top : ℕ) (words : List ℕ) (places : List (Option (Message A)))
    → IsWindow w front top words places → (n : ℕ) → w.mark < n → is_set words (n - w.mark - 1) ≡ holds w.held w.ring n
holds_after w front top words places i n l = (let e : w.mark + 1 + (n - w.mark - 1) ≡ n = omega arith in i.bits
    (n - w.mark - 1) ∙ ap (λ k. holds w.held w.ring k) e)

-- No message is kept up to the safe mark, nor after the window.
pub kept_safe : {A : Type 0} (w : WindowHistory A) (n : ℕ) → n ≤ w.mark → None ≡ message_above_mark w n
kept_safe w n l = sym (cond-false (nat_lt w.mark n) (found w.held w.ring n) None (le-ltb w.mark n l))

pub kept_beyond : {A : Type 0} (w : WindowHistory A) (front top : ℕ) (words : List ℕ) (places : List (Option (Message A)))
    → IsWindow w front top words places → (n : ℕ) → w.mark + 256 < n → None ≡ message_above_mark w n
kept_beyond w front top words places i n l = sym (cond-true (nat_lt w.mark n) (found w.held w.ring n) None
    (lt-ltb w.mark n (omega arith)) ∙ found_none w.held w.ring n (i.beyond n l))

-- ---- nothing held

pub opened_is : {A : Type 0} (ring : RingId) (words : List ℕ) (places : List (Option (Message A))) → ((j : ℕ) → is_set words j ≡ false)
    → length places ≡ 256 → ((j : ℕ) → slice_index_or places j None ≡ None) → IsWindow (window_opening ring) 0 0 words places
opened_is ring words places clear count empty = record {
  front_is = refl;
  top_is = refl;
  safe = omega arith;
  near = omega arith;
  none = refl;
  beyond = λ n l. refl;
  bits = clear;
  count = count;
  placed = λ n a b. empty (place_of n);
}

-- ---- a message taken

-- The tests that it passed.
pub record IsTaken {A : Type 0} (w : WindowHistory A) (x : Message A) : Type 0 where
  pub same : same_ring x.ring w.ring ≡ true
  pub above : w.mark < x.number
  pub inside : x.number ≤ w.mark + 256
  pub fresh : holds w.held w.ring x.number ≡ false

pub taken_is : {A : Type 0} (w : WindowHistory A) (x : Message A) → takes w x ≡ true → IsTaken w x
taken_is w x h =
    let a = and_parts (same_ring x.ring w.ring) (is_new w.held w.mark w.ring x.number) h in
    let b = and_parts (nat_lt w.mark x.number && nat_le x.number (w.mark + 256)) (not (holds w.held w.ring x.number)) a.1 in
    let d = and_parts (nat_lt w.mark x.number) (nat_le x.number (w.mark + 256)) b.0 in
    record { same = a.0; above = ltb-true _ _ d.0; inside = leb-true _ _ d.1; fresh = not-true _ b.1 }

abbrev with : {A : Type 0} → WindowHistory A → Message A → WindowHistory A
with w x = record w { held = x ∷ w.held }

-- The bits and places with it.
module _ {A : Type 0} (w : WindowHistory A) (x : Message A) (front top : ℕ) (words more : List ℕ) (places : List (Option (Message A)))
    (i : IsWindow w front top words places) (t : IsTaken w x)
    (this : is_set more (x.number - w.mark - 1) ≡ true) (others : (j : ℕ) → j ≢ x.number - w.mark - 1 → is_set more j ≡ is_set words j) where
  new_bits : (j : ℕ) → is_set more j ≡ holds (x ∷ w.held) w.ring (w.mark + 1 + j)
  new_bits j = elim (cases_eq x.number (w.mark + 1 + j)) [
    | inl e ↦ (let s : j ≡ x.number - w.mark - 1 = omega arith in ap (is_set more) s ∙ this
        ∙ sym (ap (λ k. holds (x ∷ w.held) w.ring k) (sym e) ∙ holds_this x w.held w.ring t.same))
    | inr e ↦ (let s : j ≢ x.number - w.mark - 1 = λ q. e (omega (arith, t.above)) in others j s ∙ i.bits j
        ∙ sym (holds_other x w.held w.ring (w.mark + 1 + j) t.same e))
  ]

  new_after : (n : ℕ) → w.mark < n → is_set more (n - w.mark - 1) ≡ holds (x ∷ w.held) w.ring n
  new_after n l = (let e : w.mark + 1 + (n - w.mark - 1) ≡ n = omega arith in new_bits (n - w.mark - 1) ∙ ap (λ k. holds (x ∷ w.held) w.ring k) e)

  new_places : (n : ℕ) → w.mark < n → n ≤ w.mark + 256 → message_in_slot (slice_set places (place_of x.number) (Some x)) n ≡ found (x ∷ w.held) w.ring n
  new_places n a b = elim (cases_eq x.number n) [
    | inl e ↦ (let s : place_of n ≡ place_of x.number = ap place_of (sym e) in
        ap (λ k. slice_index_or (slice_set places (place_of x.number) (Some x)) k None) s
        ∙ get_or-set_same places (place_of x.number) (Some x) None (omega (arith, i.count))
        ∙ sym (ap (λ k. found (x ∷ w.held) w.ring k) (sym e) ∙ found_this x w.held w.ring t.same))
    | inr e ↦ (let s : place_of n ≢ place_of x.number = λ q. e (omega (arith, t.above, t.inside)) in
        get_or-set_other places (place_of x.number) (place_of n) (Some x) None s ∙ i.placed n a b ∙ sym (found_other x w.held w.ring n e))
  ]

  new_beyond : (n : ℕ) → w.mark + 256 < n → holds (x ∷ w.held) w.ring n ≡ false
  new_beyond n l = (let s : x.number ≢ n = λ q. both_lines n l q in holds_other x w.held w.ring n t.same s ∙ i.beyond n l)
    where
      both_lines : (n : ℕ) → w.mark + 256 < n → x.number ≡ n → ⊥
      both_lines n l q = omega (arith, t.inside)

  new_none : holds (x ∷ w.held) w.ring 0 ≡ false
  new_none = (let s : x.number ≢ 0 = λ q. omega (arith, t.above) in holds_other x w.held w.ring 0 t.same s ∙ i.none)

  new_top : max top x.number ≡ highest (x ∷ w.held) w.ring
  new_top = (let e = highest_more x w.held w.ring t.same in let f = i.top_is in omega arith)

  -- Whatever the front is now, the held numbers determine it.
  pub with_front : (now : ℕ) → IsFrontIn (x ∷ w.held) w.ring now → front ≤ now → now ≤ w.mark + 256
      → IsWindow (with w x) now (max top x.number) more (slice_set places (place_of x.number) (Some x))
  with_front now f later near = record {
    front_is = front_only (x ∷ w.held) w.ring now f;
    top_is = new_top;
    safe = omega (arith, i.safe);
    near = near;
    none = new_none;
    beyond = new_beyond;
    bits = new_bits;
    count = length-set places (place_of x.number) (Some x) ∙ i.count;
    placed = new_places;
  }

  old_below : (n : ℕ) → 1 ≤ n → n ≤ front → holds (x ∷ w.held) w.ring n ≡ true
  old_below n a b = holds_still x w.held w.ring n t.same ((front_is w.held w.ring).below n a (omega (arith, i.front_is)))

  -- The front stays if the next number is another.
  pub front_stays : x.number ≢ suc front → IsWindow (with w x) front (max top x.number) more (slice_set places (place_of x.number) (Some x))
  front_stays other =
      let next : holds w.held w.ring (suc front) ≡ false = ap (λ k. holds w.held w.ring (suc k)) i.front_is ∙ (front_is w.held w.ring).next in
      with_front front (record { below = old_below; next = holds_other x w.held w.ring (suc front) t.same other ∙ next }) (omega arith) i.near

  -- Otherwise the front moves to the one before the first missing number.
  pub front_goes : (k : ℕ) → x.number ≡ suc front → IsFirstClear more (x.number - w.mark - 1) k
      → IsWindow (with w x) (w.mark + k) (max top x.number) more (slice_set places (place_of x.number) (Some x))
  front_goes k next c =
      let short : k ≤ 256 = elim (cases_lt 256 k) [
        | inl l ↦ absurd (both_ways (is_set more 256) (new_bits 256 ∙ new_beyond (w.mark + 1 + 256) (omega arith)) (c.set 256 (omega (arith, t.inside)) l))
        | inr l ↦ l
      ] in
      let later : front ≤ w.mark + k = omega (arith, c.later, i.safe) in
      with_front (w.mark + k)
      (record {
        below = λ n a b. elim (cases_lt front n) [
          | inl l ↦ sym (new_after n (omega (arith, i.safe))) ∙ c.set (n - w.mark - 1) (omega (arith, i.safe)) (omega (arith, i.safe))
          | inr l ↦ old_below n a l
        ];
        next = (let e : w.mark + 1 + k ≡ suc (w.mark + k) = omega arith in sym (ap (λ n. holds (x ∷ w.held) w.ring n) e) ∙ sym (new_bits k) ∙ c.clear);
      })
      later (omega arith)

  -- No bit is set for a number above the highest.
  pub bits_fit : (limit : ℕ) → top < limit → x.number < limit → (j : ℕ) → is_set more j ≡ true → w.mark + 1 + j < limit
  bits_fit limit a b j h = (let l = highest_covers (x ∷ w.held) w.ring (w.mark + 1 + j) (sym (new_bits j) ∙ h) in let m = new_top in omega arith)

-- ---- numbers forgotten

pub forgotten_is : {A : Type 0} (w : WindowHistory A) (upto front top : ℕ) (words less : List ℕ) (places left : List (Option (Message A)))
    → IsWindow w front top words places → w.mark < upto → upto ≤ front
    → ((j : ℕ) → is_set less j ≡ is_set words (upto - w.mark + j))
    → length left ≡ 256
    → ((n : ℕ) → w.mark < n → n ≤ upto → message_in_slot left n ≡ None)
    → ((n : ℕ) → upto < n → n ≤ w.mark + 256 → message_in_slot left n ≡ message_in_slot places n)
    → IsWindow (record w { mark = upto }) front top less left
forgotten_is w upto front top words less places left i above within bits count cleared others = record {
  front_is = i.front_is;
  top_is = i.top_is;
  safe = within;
  near = omega (arith, i.near);
  none = i.none;
  beyond = λ n l. i.beyond n (omega arith);
  bits = λ j. (let e : w.mark + 1 + (upto - w.mark + j) ≡ upto + 1 + j = omega arith in bits j
      ∙ i.bits (upto - w.mark + j) ∙ ap (λ n. holds w.held w.ring n) e);
  count = count;
  placed = λ n a b. elim (cases_lt (w.mark + 256) n) [
    | inl far ↦
        let e : place_of n ≡ place_of (n - 256) = omega arith in
        let none : message_in_slot left (n - 256) ≡ None = cleared (n - 256) (omega arith) (omega arith) in
        ap (λ k. slice_index_or left k None) e ∙ none ∙ sym (found_none w.held w.ring n (i.beyond n far))
    | inr near ↦ others n a near ∙ i.placed n (omega arith) near
  ];
}

-- ---- places

-- One more place without a message.
pub none_more : {X : Type 0} (xs : List (Option X)) → ((j : ℕ) → slice_index_or xs j None ≡ None) → (j : ℕ) → slice_index_or (xs ++ None ∷ []) j None ≡ None
none_more [] h zero = refl
none_more [] h (suc j) = refl
none_more (x ∷ xs) h zero = h 0
none_more (x ∷ xs) h (suc j) = none_more xs (λ k. h (suc k)) j

-- The place of one more number is emptied.
pub cleared_more : {A : Type 0} (xs : List (Option (Message A))) (mark before : ℕ) → length xs ≡ 256 → mark ≤ before → before < mark + 256
    → ((n : ℕ) → mark < n → n ≤ before → message_in_slot xs n ≡ None) → (n : ℕ) → mark < n → n ≤ before + 1
    → message_in_slot (slice_set xs (before % 256) None) n ≡ None
cleared_more xs mark before count a b h n l m = elim (cases_eq n (before + 1)) [
  | inl e ↦ (let s : place_of n ≡ before % 256 = omega arith in ap
      (λ k. slice_index_or (slice_set xs (before % 256) None) k None) s ∙ get_or-set_same xs (before % 256) None None
      (omega arith))
  | inr e ↦ (let s : place_of n ≢ before % 256 = λ q. e (omega arith) in get_or-set_other xs (before % 256) (place_of n) None None s ∙ h n l (omega arith))
]

pub others_more : {A : Type 0} (xs : List (Option (Message A))) (mark before : ℕ) → mark ≤ before → before < mark + 256 → (n : ℕ) → before + 1 < n
    → n ≤ mark + 256 → message_in_slot (slice_set xs (before % 256) None) n ≡ message_in_slot xs n
others_more xs mark before a b n l m = (let s : place_of n ≢ before % 256 = omega arith in get_or-set_other xs (before % 256) (place_of n) None None s)
