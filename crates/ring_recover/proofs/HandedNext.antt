-- The next number to wrap, number by number; and what is left of the payloads of a node in Recovery once the first of
-- them is seen.
use Rattle.std.proofs.Common.{◌≡◌, ℕ, suc, ◌+◌, ◌-◌, ◌<◌, ◌≤◌, Bool, true, false, List, [], ◌∷◌, filter, filter_map}
use Rattle.std.proofs.Common.{Option, Some, None, refl, ap, ◌∙◌, sym, inl, inr, arith}
use Rattle.std.specs.Prelude.{not, ◌&&◌, ◌==◌}
use Rattle.std.specs.List.{cons_option}
use Rattle.std.proofs.lemmas.Bool.{cases_Bool, cond-true, cond-false, and_parts, eqb-true}
use Rattle.ring_base.specs.Numbers.{numbers_from}
use Rattle.ring_base.specs.Rings.{same_ring}
use Rattle.ring_base.specs.declared.ring_id.RingId.{RingId}
use Rattle.ring_window.specs.Payloads.{is_user}
use Rattle.ring_window.specs.Messages.{Message}
use Rattle.ring_window.specs.Bits.{is_set}
use Rattle.ring_window.specs.Held.{is_numbered, found, highest}
use Rattle.ring_window.specs.Windows.{WindowHistory, message_above_mark}
use Rattle.ring_recover.specs.Plans.{low}
use Rattle.ring_recover.specs.Wrapping.{is_wrapped}
use Rattle.ring_recover.specs.RecoveryState.{RecoveryState, first_number, next_to_wrap, is_user_message, IsPlanKept}
use Rattle.ring_recover.proofs.MessagesInFront.{kept_found}

-- the message found under a number has that number
pub found_number : {A : Type 0} (held : List (Message A)) (ring : RingId) (n : ℕ) (x : Message A) → found held ring n ≡ Some x → x.number ≡ n
found_number [] ring n x e = absurd cc
found_number {A} (y ∷ held) ring n x e =
    elim (cases_Bool (is_numbered ring n y)) [
      | inl h ↦ (let s : Some y ≡ Some x = sym (cond-true (is_numbered ring n y) (Some y) (found held ring n) h) ∙ e in let same : y ≡ x = cc in
          sym (ap (λ (z : Message A). z.number) same) ∙ eqb-true y.number n (and_parts (same_ring y.ring ring) (y.number == n) h).1)
      | inr h ↦ found_number held ring n x (sym (cond-false (is_numbered ring n y) (Some y) (found held ring n) h) ∙ e)
    ]

-- the user messages that none wraps
abbrev pub left_of : {A : Type 0} → RecoveryState A → List (Message A) → List (Message A)
left_of r xs = filter (λ (x : Message _). is_user x.payload) (filter (λ (x : Message _). not (is_wrapped r.seen r.plan.old x.number)) xs)

-- a number is wrapped where a user message of it is held, and no message wraps it yet
abbrev pub is_left : {A : Type 0} → RecoveryState A → List (Message A) → ℕ → Bool
is_left r held n = is_user_message (found held r.plan.old n) && not (is_wrapped r.seen r.plan.old n)

-- the messages of consecutive numbers
abbrev pub row : {A : Type 0} → RecoveryState A → List (Message A) → ℕ → ℕ → List (Message A)
row r held first count = filter_map (found held r.plan.old) (numbers_from first count)

-- the first of consecutive numbers that is wrapped
abbrev pub next_from : {A : Type 0} → RecoveryState A → List (Message A) → ℕ → ℕ → Option ℕ
next_from r held first count = first_number (left_of r (row r held first count))

module _ {A : Type 0} (r : RecoveryState A) where
  left_yes : (x : Message A) (xs : List (Message A)) → is_user x.payload ≡ true → not (is_wrapped r.seen r.plan.old x.number) ≡ true
      → left_of r (x ∷ xs) ≡ x ∷ left_of r xs
  left_yes x xs user new =
      let more = filter (λ (y : Message A). not (is_wrapped r.seen r.plan.old y.number)) xs in
      ap (λ (ys : List (Message A)). filter
      (λ (y : Message A). is_user y.payload) ys) (cond-true (not (is_wrapped r.seen r.plan.old x.number)) (x ∷ more) more new)
      ∙ cond-true (is_user x.payload) (x ∷ left_of r xs) (left_of r xs) user

  left_seen : (x : Message A) (xs : List (Message A)) → not (is_wrapped r.seen r.plan.old x.number) ≡ false → left_of r (x ∷ xs) ≡ left_of r xs
  left_seen x xs new =
      let more = filter (λ (y : Message A). not (is_wrapped r.seen r.plan.old y.number)) xs in
      ap (λ (ys : List (Message A)). filter
      (λ (y : Message A). is_user y.payload) ys) (cond-false (not (is_wrapped r.seen r.plan.old x.number)) (x ∷ more) more new)

  left_no_user : (x : Message A) (xs : List (Message A)) → is_user x.payload ≡ false → left_of r (x ∷ xs) ≡ left_of r xs
  left_no_user x xs user =
      let more = filter (λ (y : Message A). not (is_wrapped r.seen r.plan.old y.number)) xs in
      elim (cases_Bool (not (is_wrapped r.seen r.plan.old x.number))) [
        | inl new ↦
            ap (λ (ys : List (Message A)). filter
            (λ (y : Message A). is_user y.payload) ys) (cond-true (not (is_wrapped r.seen r.plan.old x.number)) (x ∷ more) more new)
            ∙ cond-false (is_user x.payload) (x ∷ left_of r xs) (left_of r xs) user
        | inr old ↦ left_seen x xs old
      ]

  left_no : (x : Message A) (xs : List (Message A)) → (is_user x.payload && not (is_wrapped r.seen r.plan.old x.number)) ≡ false
      → left_of r (x ∷ xs) ≡ left_of r xs
  left_no x xs h =
      elim (cases_Bool (is_user x.payload)) [
        | inl user ↦ left_seen x xs (sym (ap (λ b. b && not (is_wrapped r.seen r.plan.old x.number)) user) ∙ h)
        | inr user ↦ left_no_user x xs user
      ]

  module _ (held : List (Message A)) where
    skip_by : (o : Option (Message A)) (first count : ℕ) → found held r.plan.old first ≡ o → (is_user_message o && not (is_wrapped r.seen r.plan.old first)) ≡ false
        → left_of r (row r held first (suc count)) ≡ left_of r (row r held (suc first) count)
    skip_by None first count e h = ap (λ (o : Option (Message A)). left_of r (cons_option o (row r held (suc first) count))) e
    skip_by (Some x) first count e h =
        ap (λ (o : Option (Message A)). left_of r (cons_option o (row r held (suc first) count))) e
        ∙ left_no x (row r held (suc first) count) (ap
        (λ n. is_user x.payload && not (is_wrapped r.seen r.plan.old n)) (found_number held r.plan.old first x e) ∙ h)

    pub next_skip : (first count : ℕ) → is_left r held first ≡ false → next_from r held first (suc count) ≡ next_from r held (suc first) count
    next_skip first count h = ap first_number (skip_by (found held r.plan.old first) first count refl h)

    hit_by : (o : Option (Message A)) (first count : ℕ) → found held r.plan.old first ≡ o → (is_user_message o && not (is_wrapped r.seen r.plan.old first)) ≡ true
        → next_from r held first (suc count) ≡ Some first
    hit_by None first count e h = absurd cc
    hit_by (Some x) first count e h =
        let n = found_number held r.plan.old first x e in
        let both = and_parts (is_user x.payload) (not (is_wrapped r.seen r.plan.old first)) h in
        ap (λ (o : Option (Message A)). first_number (left_of r (cons_option o (row r held (suc first) count)))) e
        ∙ ap first_number (left_yes x (row r held (suc first) count) both.0 (ap (λ k. not (is_wrapped r.seen r.plan.old k)) n ∙ both.1))
        ∙ ap (λ k. Some k) n

    pub next_hit : (first count : ℕ) → is_left r held first ≡ true → next_from r held first (suc count) ≡ Some first
    next_hit first count h = hit_by (found held r.plan.old first) first count refl h

    -- the search begins above the least front
    pub next_is : next_to_wrap r held ≡ next_from r held (low r.plan + 1) (highest held r.plan.old - low r.plan)
    next_is = refl

    -- one number further
    pub search_on : (before top : ℕ) → before < top → is_left r held (before + 1) ≡ false
        → next_from r held (before + 1) (top - before) ≡ next_from r held (before + 1 + 1) (top - (before + 1))
    search_on before top l h =
        let n : top - before ≡ suc (top - (before + 1)) = omega arith in
        let m : suc (before + 1) ≡ before + 1 + 1 = omega arith in
        ap (next_from r held (before + 1)) n ∙ next_skip (before + 1) (top - (before + 1)) h ∙ ap (λ k. next_from r held k (top - (before + 1))) m

    pub search_ends : (before top : ℕ) → before < top → is_left r held (before + 1) ≡ true → next_from r held (before + 1) (top - before) ≡ Some (before + 1)
    search_ends before top l h =
        let n : top - before ≡ suc (top - (before + 1)) = omega arith in
        ap (next_from r held (before + 1)) n ∙ next_hit (before + 1) (top - (before + 1)) h

    pub search_over : (before top : ℕ) → top ≤ before → next_from r held (before + 1) (top - before) ≡ None
    search_over before top l = (let n : top - before ≡ 0 = omega arith in ap (next_from r held (before + 1)) n)

-- whether a number is left to wrap, from the window and the bits
pub left_here : {A : Type 0} (r : RecoveryState A) (old : RingId) (transitional_members least_one high front : ℕ) (known wrapped : List ℕ) (ended : Bool)
    (w : WindowHistory A) (before : ℕ) (users was : Bool) → IsPlanKept r old transitional_members least_one high front known wrapped ended
    → w.ring ≡ r.plan.old → w.mark ≤ high → front ≤ before → before < high + 256 → users ≡ is_user_message (message_above_mark w (before + 1)) → was ≡ is_set wrapped (before - high)
    → is_left r w.held (before + 1) ≡ (users && not was)
left_here r old transitional_members least_one high front known wrapped ended w before users was k ring mark low near u s =
    let sound = k.sound in
    let n : high + 1 + (before - high) ≡ before + 1 = omega arith in
    let there : message_above_mark w (before + 1) ≡ found w.held r.plan.old (before + 1) = kept_found w (before + 1) (omega arith)
    ∙ ap (λ (o : RingId). found w.held o (before + 1)) ring in
    let user : is_user_message (found w.held r.plan.old (before + 1)) ≡ users = sym (u ∙ ap is_user_message there) in
    let seen : is_wrapped r.seen r.plan.old (before + 1) ≡ was = sym (s ∙ k.wrapped_is (before - high) (omega arith) ∙ ap (is_wrapped r.seen r.plan.old) n) in
    rw (user, seen) refl

pub neither : (b : Bool) → (b && not true) ≡ false
neither true = refl
neither false = refl
